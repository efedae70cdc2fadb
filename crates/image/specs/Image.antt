-- Lent memory that holds a tree: each node's four words at its place, each rule's value at its cell, both pools sound. Assumes nothing.
-- A notion of the proofs: no promise cites it.
use Rattle.std.specs.Prelude.{◌≡◌, Bool, List, ℕ, zero, suc, ◌+◌, ◌*◌, length}
use Rattle.bits.specs.Bits.{word}
use Rattle.tiers.specs.Tiers.{data_top, child_top, empty, node_words, cell_words}
use Rattle.node.specs.declared.MultiBitNode.{MultiBitNode}
use Rattle.node.specs.Nodes.{node_as}
use Rattle.blocks.specs.declared.Pool.{Pool}
use Rattle.store.specs.declared.Cell.{Cell}
use Rattle.store.specs.Words.{cell_at, node_at}
use Rattle.pools.specs.Items.{items}
use Rattle.pools.specs.Sound.{Owner, Sound}
use Rattle.image.specs.Tree.{Shape}

-- the index of a block of c items at s: empty where there are none
abbrev pub start_of : ℕ → ℕ → ℕ
start_of zero s = empty
start_of (suc c) s = s

-- the bitmap of an owner's items
abbrev pub bits_of : (ℕ → Bool) → ℕ → ℕ
bits_of K n = word 32 (λ i. K (32 * n + i))

-- the four words of node n: nodes E with blocks of children at es, rules D with blocks of cells at vs
unfoldable pub node_of : (E D : ℕ → Bool) (es vs : ℕ → ℕ) → ℕ → MultiBitNode
node_of E D es vs n = node_as (bits_of D n) (bits_of E n) (record { 0 = start_of (items E n) (es n) }) (record { 0 = start_of (items D n) (vs n) })

-- node pool p with its words and free list, data pool q with its own; the root stands first
pub record Image
    (p : Pool) (nodes node_free : List ℕ) (q : Pool) (cells cell_free : List ℕ) (E D : ℕ → Bool) (es vs : ℕ → ℕ) (val : ℕ → Cell) (on od : ℕ → Owner)
    : Type 0 where
  pub shape : Shape E D
  pub trees : Sound child_top p node_free (node_at nodes) E es (node_of E D es vs) on
  pub values : Sound data_top q cell_free (cell_at cells) D vs val od
  pub rooted : es 0 ≡ 0
  pub nodes_length : length nodes ≡ p.size * node_words
  pub cells_length : length cells ≡ q.size * cell_words
