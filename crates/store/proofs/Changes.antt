-- The changes of a block (Blocks.antt) said of cells and of nodes, with the lengths that they keep. Assumes nothing.
use mathlib.Core.Path.{◌≡◌, ◌∙◌}
use mathlib.Core.Bool.{Bool, true, false, cond}
use mathlib.Core.List.{List}
use Prim.Native.Nat.{ℕ, suc, ◌+◌, ◌-◌, ◌*◌, ◌≤◌, ◌<◌}
use native.Mathlib.Omega.{arith}
use lib.ListN.{length}
use Rattle.node.specs.Nodes.{empty_node}
use Rattle.store.specs.declared.Cell.{Cell}
use Rattle.store.specs.Words.{cell_at, save_cell, empty_cell, move_cell, node_at, save_node, move_node}
use Rattle.store.specs.Moves.{open_of, widen_cells, narrow_cells, widen_nodes, narrow_nodes}
use Rattle.store.proofs.Items.{node_room, cell_length, cells, node_length, nodes}
use Rattle.store.proofs.Moves.{open_keeps, close_keeps}
use Rattle.store.proofs.Blocks.{Grows, GrowsInto, Shrinks, ShrinksInto, Apart, grows, grows_into, shrinks, shrinks_into}

-- n nodes are 4 n words
pub room_of : (l : List ℕ) (n : ℕ) → length l ≡ 4 * n → node_room l ≡ n
room_of l n h = omega arith

-- ---- lengths

-- one move of a cell
move_cell_length : (l : List ℕ) (i j : ℕ) → length (move_cell l i j) ≡ length l
move_cell_length l i j = cell_length (save_cell l j (cell_at l i)) i empty_cell ∙ cell_length l j (cell_at l i)

-- one move of a node
move_node_length : (l : List ℕ) (i j : ℕ) → length (move_node l i j) ≡ length l
move_node_length l i j = node_length (save_node l j (node_at l i)) i empty_node ∙ node_length l j (node_at l i)

module _ (here : Bool) (l : List ℕ) (a b n k : ℕ) where
  -- a block of cells gets one more
  pub widen_cells_length : (c : Cell) → length (widen_cells here l a b n k c) ≡ length l
  unfolding widen_cells
  widen_cells_length c = cell_length (open_of move_cell here l a b n k) (cond here a b + k) c ∙ open_keeps length move_cell move_cell_length here l a b n k

  -- a block of cells loses one
  pub narrow_cells_length : length (narrow_cells here l a b n k) ≡ length l
  unfolding narrow_cells
  narrow_cells_length = close_keeps length move_cell move_cell_length here (save_cell l (a + k) empty_cell) a b n k ∙ cell_length l (a + k) empty_cell

  -- a block of nodes gets one more
  pub widen_nodes_length : length (widen_nodes here l a b n k) ≡ length l
  unfolding widen_nodes
  widen_nodes_length = node_length (open_of move_node here l a b n k) (cond here a b + k) empty_node ∙ open_keeps length move_node move_node_length here l a b n k

  -- a block of nodes loses one
  pub narrow_nodes_length : length (narrow_nodes here l a b n k) ≡ length l
  unfolding narrow_nodes
  narrow_nodes_length = close_keeps length move_node move_node_length here (save_node l (a + k) empty_node) a b n k ∙ node_length l (a + k) empty_node

-- ---- what stands where: n items at a, slot k, the other block at b

module _ (l : List ℕ) (a b n k : ℕ) where
  -- a block of cells gets one more, in place
  pub cells_grow : (c : Cell) → k ≤ n → a + n < length l → Grows (cell_at l) (cell_at (widen_cells true l a b n k c)) c a n k
  unfolding widen_cells
  cells_grow c h f = grows cells empty_cell l a b n k c h f

  -- and moves to another block
  pub cells_grow_into : (c : Cell) → k ≤ n → a + n ≤ length l → b + n < length l → Apart a n b (suc n)
      → GrowsInto (cell_at l) (cell_at (widen_cells false l a b n k c)) empty_cell c a b n k
  unfolding widen_cells
  cells_grow_into c h fa fb s = grows_into cells empty_cell l a b n k c h fa fb s

  -- a block of cells loses one, in place
  pub cells_shrink : k < n → a + n ≤ length l → Shrinks (cell_at l) (cell_at (narrow_cells true l a b n k)) empty_cell a n k
  unfolding narrow_cells
  cells_shrink h f = shrinks cells empty_cell l a b n k h f

  -- and moves to another block
  pub cells_shrink_into : k < n → a + n ≤ length l → b + (n - 1) ≤ length l → Apart a n b (n - 1)
      → ShrinksInto (cell_at l) (cell_at (narrow_cells false l a b n k)) empty_cell a b n k
  unfolding narrow_cells
  cells_shrink_into h fa fb s = shrinks_into cells empty_cell l a b n k h fa fb s

  -- a block of nodes gets one more, an empty one, in place
  pub nodes_grow : k ≤ n → a + n < node_room l → Grows (node_at l) (node_at (widen_nodes true l a b n k)) empty_node a n k
  unfolding widen_nodes
  nodes_grow h f = grows nodes empty_node l a b n k empty_node h f

  -- and moves to another block
  pub nodes_grow_into : k ≤ n → a + n ≤ node_room l → b + n < node_room l → Apart a n b (suc n)
      → GrowsInto (node_at l) (node_at (widen_nodes false l a b n k)) empty_node empty_node a b n k
  unfolding widen_nodes
  nodes_grow_into h fa fb s = grows_into nodes empty_node l a b n k empty_node h fa fb s

  -- a block of nodes loses one, in place
  pub nodes_shrink : k < n → a + n ≤ node_room l → Shrinks (node_at l) (node_at (narrow_nodes true l a b n k)) empty_node a n k
  unfolding narrow_nodes
  nodes_shrink h f = shrinks nodes empty_node l a b n k h f

  -- and moves to another block
  pub nodes_shrink_into : k < n → a + n ≤ node_room l → b + (n - 1) ≤ node_room l → Apart a n b (n - 1)
      → ShrinksInto (node_at l) (node_at (narrow_nodes false l a b n k)) empty_node a b n k
  unfolding narrow_nodes
  nodes_shrink_into h fa fb s = shrinks_into nodes empty_node l a b n k h fa fb s
