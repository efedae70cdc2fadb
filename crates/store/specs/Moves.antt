-- Items of a block move one by one: defined once over a single move, used for cells and for nodes. Assumes nothing.
use Rattle.std.specs.Prelude.{ℕ, zero, suc, ◌+◌, ◌-◌, Bool, cond, List}
use Rattle.node.specs.Nodes.{empty_node}
use Rattle.store.specs.declared.Cell.{Cell}
use Rattle.store.specs.Words.{save_cell, empty_cell, save_node, move_cell, move_node}

-- the item at i goes to j, and e stays
abbrev pub move_of : {A : Type 0} → (List ℕ → ℕ → A) → (List ℕ → ℕ → A → List ℕ) → A → List ℕ → ℕ → ℕ → List ℕ
move_of at save e l i j = save (save l j (at l i)) i e

-- n items from a to b, upwards
unfoldable pub run_of : (List ℕ → ℕ → ℕ → List ℕ) → ℕ → List ℕ → ℕ → ℕ → List ℕ
run_of move zero l a b = l
run_of move (suc n) l a b = move (run_of move n l a b) (a + n) (b + n)

-- n items from a up by one, the last first
unfoldable pub lift_of : (List ℕ → ℕ → ℕ → List ℕ) → ℕ → List ℕ → ℕ → List ℕ
lift_of move zero l a = l
lift_of move (suc n) l a = lift_of move n (move l (a + n) (a + n + 1)) a

-- room for one more at slot k of n items at a: in place, or in the block at b
unfoldable pub open_of : (List ℕ → ℕ → ℕ → List ℕ) → Bool → List ℕ → ℕ → ℕ → ℕ → ℕ → List ℕ
open_of move here l a b n k =
    cond here (lift_of move (n - k) l (a + k)) (run_of move (n - k) (run_of move k l a b) (a + k) (b + k + 1))

-- the gap at slot k of n items at a is closed: in place, or in the block at b
unfoldable pub close_of : (List ℕ → ℕ → ℕ → List ℕ) → Bool → List ℕ → ℕ → ℕ → ℕ → ℕ → List ℕ
close_of move here l a b n k =
    cond here (run_of move (n - k - 1) l (a + k + 1) (a + k)) (run_of move (n - k - 1) (run_of move k l a b) (a + k + 1) (b + k))

-- a block gets the item x at slot k, loses the item at slot k
abbrev pub widen_of : {A : Type 0} → (List ℕ → ℕ → A) → (List ℕ → ℕ → A → List ℕ) → A → Bool → List ℕ → ℕ → ℕ → ℕ → ℕ → A → List ℕ
widen_of at save e here l a b n k x = save (open_of (move_of at save e) here l a b n k) (cond here a b + k) x

abbrev pub narrow_of : {A : Type 0} → (List ℕ → ℕ → A) → (List ℕ → ℕ → A → List ℕ) → A → Bool → List ℕ → ℕ → ℕ → ℕ → ℕ → List ℕ
narrow_of at save e here l a b n k = close_of (move_of at save e) here (save l (a + k) e) a b n k

-- a block gets a cell at slot k, loses the cell at slot k
unfoldable pub widen_cells : Bool → List ℕ → ℕ → ℕ → ℕ → ℕ → Cell → List ℕ
widen_cells here l a b n k c = save_cell (open_of move_cell here l a b n k) (cond here a b + k) c

unfoldable pub narrow_cells : Bool → List ℕ → ℕ → ℕ → ℕ → ℕ → List ℕ
narrow_cells here l a b n k = close_of move_cell here (save_cell l (a + k) empty_cell) a b n k

-- a block gets an empty node at slot k, loses the node at slot k
unfoldable pub widen_nodes : Bool → List ℕ → ℕ → ℕ → ℕ → ℕ → List ℕ
widen_nodes here l a b n k = save_node (open_of move_node here l a b n k) (cond here a b + k) empty_node

unfoldable pub narrow_nodes : Bool → List ℕ → ℕ → ℕ → ℕ → ℕ → List ℕ
narrow_nodes here l a b n k = close_of move_node here (save_node l (a + k) empty_node) a b n k
