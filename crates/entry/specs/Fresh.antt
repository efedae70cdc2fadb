-- What a fresh start writes: empty nodes and zeros; and a pool with nothing free (document 01, lent memory). Assumes nothing.
use Rattle.std.specs.Prelude.{ℕ, zero, suc, List, [], ◌∷◌, length, replicate}
use Rattle.node.specs.Nodes.{empty_node}
use Rattle.blocks.specs.declared.Pool.{Pool}
use Rattle.store.specs.Words.{save_node}

-- the first n nodes empty
unfoldable pub empty_nodes : ℕ → List ℕ → List ℕ
empty_nodes zero l = l
empty_nodes (suc n) l = save_node (empty_nodes n l) n empty_node

-- as many zeros
abbrev pub zeros : List ℕ → List ℕ
zeros l = replicate (length l) 0

abbrev pub no_free : List ℕ
no_free = 0 ∷ 0 ∷ 0 ∷ 0 ∷ 0 ∷ 0 ∷ 0 ∷ []

-- a pool of a size with the first `mark` places issued and nothing free
abbrev pub pool_as : ℕ → ℕ → Pool
pool_as size mark = record { size = size; mark = mark; free = no_free }
