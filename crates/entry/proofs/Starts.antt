-- What stands in lent memory after a fresh start's writes. Assumes nothing.
use mathlib.Core.Path.{◌≡◌, refl, ◌∙◌}
use mathlib.Core.List.{List}
use Prim.Native.Nat.{ℕ, zero, suc, ◌*◌, ◌≤◌, ◌<◌}
use native.Mathlib.Nat.{not-suc-le-zero}
use native.Mathlib.Decide.{dec_lt}
use native.Mathlib.Omega.{arith}
use lib.ListN.{length, get_or, length-replicate, get_or-replicate}
use Rattle.node.specs.Nodes.{empty_node}
use Rattle.store.specs.Words.{node_at, save_node}
use Rattle.store.proofs.Items.{nodes, node_length}
use Rattle.entry.specs.Fresh.{empty_nodes, zeros}

-- empty nodes keep the slice's length
pub empty_length : (n : ℕ) (l : List ℕ) → length (empty_nodes n l) ≡ length l
unfolding empty_nodes
empty_length zero l = refl
empty_length (suc n) l = node_length (empty_nodes n l) n empty_node ∙ empty_length n l

-- zeros keep it
pub zeros_length : (l : List ℕ) → length (zeros l) ≡ length l
zeros_length l = length-replicate (length l) 0

-- each word is 0
pub zeros_at : (l : List ℕ) (i : ℕ) → i < length l → get_or (zeros l) i 0 ≡ 0
zeros_at l i h = get_or-replicate (length l) i 0 0 h

-- each of the first n nodes is empty
pub empty_at : (n : ℕ) (l : List ℕ) (i : ℕ) → i < n → n * 4 ≤ length l → node_at (empty_nodes n l) i ≡ empty_node
unfolding empty_nodes
empty_at zero l i h k = absurd (not-suc-le-zero h)
empty_at (suc n) l i h k = go (dec_lt i n) (λ m. empty_at n l i m (omega arith))
  where
    go : Dec (i < n) → (i < n → node_at (empty_nodes n l) i ≡ empty_node) → node_at (save_node (empty_nodes n l) n empty_node) i ≡ empty_node
    go (yes m) f = nodes.other (empty_nodes n l) n i empty_node (λ z. omega arith) ∙ f m
    go (no m) f =
        let z : i ≡ n = omega arith in
        rw z (nodes.same (empty_nodes n l) n empty_node (rw (empty_length n l) (omega arith)))

-- a node behind them is as it was
pub empty_behind : (n : ℕ) (l : List ℕ) (i : ℕ) → n ≤ i → node_at (empty_nodes n l) i ≡ node_at l i
unfolding empty_nodes
empty_behind zero l i h = refl
empty_behind (suc n) l i h = nodes.other (empty_nodes n l) n i empty_node (λ z. omega arith) ∙ empty_behind n l i (omega arith)
