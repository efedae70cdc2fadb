-- What an insert writes, once its number is settled: missing nodes from the top, then the rule's value. Assumes nothing.
use Rattle.std.specs.Prelude.{ℕ, zero, suc, ◌+◌, ◌-◌, List}
use Rattle.bits.specs.Bits.{count, set_below, with_bit}
use Rattle.tiers.specs.Tiers.{stride, data_top, child_top}
use Rattle.places.specs.Places.{child_bit}
use Rattle.node.specs.declared.MultiBitNode.{MultiBitNode}
use Rattle.node.specs.Nodes.{empty_node}
use Rattle.blocks.specs.declared.Pool.{Pool}
use Rattle.blocks.specs.Blocks.{take_of}
use Rattle.blocks.specs.Growth.{grow_of, stays_of}
use Rattle.store.specs.declared.Cell.{Cell}
use Rattle.store.specs.Words.{save_node}
use Rattle.store.specs.Moves.{widen_cells, widen_nodes}
use Rattle.edits.specs.declared.Made.{Made}
use Rattle.edits.specs.Nodes.{with_rules, with_children}

abbrev pub made_as : ℕ → Pool → Made
made_as a p = record { at = a; pool = p }

-- the rule of data bit b comes into the node x at `at`: its block of cells grows by one. Pool, nodes, cells, free list after
unfoldable pub keep_of : Pool → List ℕ → List ℕ → List ℕ → ℕ → MultiBitNode → ℕ → Cell → Pool × List ℕ × List ℕ × List ℕ
keep_of p nodes cells f at x b v =
    let c = count x.data_bitmap in
    let g = grow_of p data_top f x.data_idx.0 c in (
      g.0.pool,
      save_node nodes at (with_rules x (with_bit x.data_bitmap b) g.0.start),
      widen_cells (stays_of data_top c) cells x.data_idx.0 g.0.start c (set_below x.data_bitmap b) v,
      g.1,
    )

-- n single nodes, each the only child of the one before, below the empty node at `at`: the lowest, pool, nodes, free list after
unfoldable pub chain_of : ℕ → Pool → List ℕ → List ℕ → ℕ → ℕ → ℕ → Made × List ℕ × List ℕ
chain_of zero p nodes f at d key = (made_as at p, nodes, f)
chain_of (suc n) p nodes f at d key =
    let g = take_of p child_top f 0 in
    chain_of n g.0.pool
    (save_node (save_node nodes g.0.start empty_node) at (with_children empty_node (with_bit 0 (child_bit d key)) g.0.start))
    g.1 g.0.start (d + stride) key

-- the n missing nodes below the node x at `at`, depth d: its block of children grows by one, then single nodes
unfoldable pub make_of : Pool → List ℕ → List ℕ → ℕ → MultiBitNode → ℕ → ℕ → ℕ → Made × List ℕ × List ℕ
make_of p nodes f at x d key n =
    let b = child_bit d key in
    let c = count x.child_bitmap in
    let s = set_below x.child_bitmap b in
    let g = grow_of p child_top f x.children_idx.0 c in
    chain_of (n - 1) g.0.pool
    (save_node (widen_nodes (stays_of child_top c) nodes x.children_idx.0 g.0.start c s) at
    (with_children x (with_bit x.child_bitmap b) g.0.start))
    g.1 (g.0.start + s) (d + stride) key
