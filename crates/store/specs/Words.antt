-- Items in lent words: a cell is one word, a node four. Reads give zeros past the end, writes past the end do nothing. Assumes nothing.
use Rattle.std.specs.Prelude.{ℕ, ◌+◌, ◌*◌, List, get_or, set}
use Rattle.node.specs.declared.MultiBitNode.{MultiBitNode}
use Rattle.node.specs.Nodes.{node_as, empty_node}
use Rattle.store.specs.declared.Cell.{Cell}

-- ---- cells. Request [8] changes these three and the cell itself

abbrev pub cell_as : ℕ → Cell
cell_as v = record { value = v }

unfoldable pub cell_at : List ℕ → ℕ → Cell
cell_at l i = cell_as (get_or l i 0)

unfoldable pub save_cell : List ℕ → ℕ → Cell → List ℕ
save_cell l i c = set l i c.value

-- a vacated cell
abbrev pub empty_cell : Cell
empty_cell = cell_as 0

-- ---- nodes

unfoldable pub node_at : List ℕ → ℕ → MultiBitNode
node_at l i =
    node_as (get_or l (i * 4) 0) (get_or l (i * 4 + 1) 0) (record { 0 = get_or l (i * 4 + 2) 0 }) (record { 0 = get_or l (i * 4 + 3) 0 })

unfoldable pub save_node : List ℕ → ℕ → MultiBitNode → List ℕ
save_node l i n =
    set (set (set (set l (i * 4) n.data_bitmap) (i * 4 + 1) n.child_bitmap) (i * 4 + 2) n.children_idx.0) (i * 4 + 3) n.data_idx.0

-- ---- one item goes from i to j, and an empty one stays

abbrev pub move_cell : List ℕ → ℕ → ℕ → List ℕ
move_cell l i j = save_cell (save_cell l j (cell_at l i)) i empty_cell

abbrev pub move_node : List ℕ → ℕ → ℕ → List ℕ
move_node l i j = save_node (save_node l j (node_at l i)) i empty_node
