-- Laws of an insert's writes: every slice keeps its length. Assumes nothing.
use mathlib.Core.Path.{◌≡◌, refl, ◌∙◌}
use mathlib.Core.List.{List}
use Prim.Native.Nat.{ℕ, zero, suc, ◌+◌, ◌-◌}
use lib.ListN.{length}
use Rattle.bits.specs.Bits.{count, set_below, with_bit}
use Rattle.tiers.specs.Tiers.{stride, data_top, child_top}
use Rattle.places.specs.Places.{child_bit}
use Rattle.node.specs.declared.MultiBitNode.{MultiBitNode}
use Rattle.node.specs.Nodes.{empty_node}
use Rattle.blocks.specs.declared.Pool.{Pool}
use Rattle.blocks.specs.declared.Block.{Block}
use Rattle.blocks.specs.Blocks.{take_of}
use Rattle.blocks.specs.Growth.{grow_of, stays_of}
use Rattle.blocks.proofs.Moves.{take_length}
use Rattle.blocks.proofs.Lengths.{grow_length}
use Rattle.store.specs.declared.Cell.{Cell}
use Rattle.store.specs.Words.{save_node}
use Rattle.store.specs.Moves.{widen_nodes}
use Rattle.store.proofs.Items.{node_length}
use Rattle.store.proofs.Changes.{widen_cells_length, widen_nodes_length}
use Rattle.edits.specs.Nodes.{with_children}
use Rattle.edits.specs.Adding.{keep_of, chain_of, make_of}

module _ (p : Pool) (nodes cells f : List ℕ) (at : ℕ) (x : MultiBitNode) (b : ℕ) (v : Cell) where
  -- a rule is kept: the nodes keep their length
  pub keep_nodes_length : length (keep_of p nodes cells f at x b v).1 ≡ length nodes
  unfolding keep_of
  keep_nodes_length = node_length nodes at _

  -- the cells too
  pub keep_cells_length : length (keep_of p nodes cells f at x b v).2 ≡ length cells
  unfolding keep_of
  keep_cells_length = widen_cells_length _ cells _ _ _ _ v

  -- and the cells' free list
  pub keep_list_length : length (keep_of p nodes cells f at x b v).3 ≡ length f
  unfolding keep_of
  keep_list_length = grow_length p data_top f x.data_idx.0 (count x.data_bitmap)

-- single nodes in a chain: the nodes keep their length
pub chain_nodes_length : (n : ℕ) (p : Pool) (nodes f : List ℕ) (at d key : ℕ) → length (chain_of n p nodes f at d key).1 ≡ length nodes
unfolding chain_of
chain_nodes_length zero p nodes f at d key = refl
chain_nodes_length (suc n) p nodes f at d key =
    let g = take_of p child_top f 0 in
    let m = save_node nodes g.0.start empty_node in
    let y = with_children empty_node (with_bit 0 (child_bit d key)) g.0.start in
    chain_nodes_length n g.0.pool (save_node m at y) g.1 g.0.start (d + stride) key ∙ node_length m at y ∙ node_length nodes g.0.start empty_node

-- and the nodes' free list
pub chain_list_length : (n : ℕ) (p : Pool) (nodes f : List ℕ) (at d key : ℕ) → length (chain_of n p nodes f at d key).2 ≡ length f
unfolding chain_of
chain_list_length zero p nodes f at d key = refl
chain_list_length (suc n) p nodes f at d key =
    let g = take_of p child_top f 0 in
    let m = save_node nodes g.0.start empty_node in
    let y = with_children empty_node (with_bit 0 (child_bit d key)) g.0.start in
    chain_list_length n g.0.pool (save_node m at y) g.1 g.0.start (d + stride) key ∙ take_length p child_top f 0

module _ (p : Pool) (nodes f : List ℕ) (at : ℕ) (x : MultiBitNode) (d key n : ℕ) where
  -- the block of children after it has grown, the new child's slot, the nodes with room for it, and the node that links them
  abbrev grown : Block × List ℕ
  grown = grow_of p child_top f x.children_idx.0 (count x.child_bitmap)

  abbrev slot : ℕ
  slot = set_below x.child_bitmap (child_bit d key)

  abbrev widened : List ℕ
  widened = widen_nodes (stays_of child_top (count x.child_bitmap)) nodes x.children_idx.0 grown.0.start (count x.child_bitmap) slot

  abbrev linked : MultiBitNode
  linked = with_children x (with_bit x.child_bitmap (child_bit d key)) grown.0.start

  -- missing nodes are made: the nodes keep their length
  pub make_nodes_length : length (make_of p nodes f at x d key n).1 ≡ length nodes
  unfolding make_of
  make_nodes_length =
      chain_nodes_length (n - 1) grown.0.pool (save_node widened at linked) grown.1 (grown.0.start + slot) (d + stride) key
      ∙ node_length widened at linked
      ∙ widen_nodes_length (stays_of child_top (count x.child_bitmap)) nodes x.children_idx.0 grown.0.start (count x.child_bitmap) slot

  -- and the nodes' free list
  pub make_list_length : length (make_of p nodes f at x d key n).2 ≡ length f
  unfolding make_of
  make_list_length =
      chain_list_length (n - 1) grown.0.pool (save_node widened at linked) grown.1 (grown.0.start + slot) (d + stride) key
      ∙ grow_length p child_top f x.children_idx.0 (count x.child_bitmap)
