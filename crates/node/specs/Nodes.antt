-- A node's four words, and a node with one bit changed. Assumes nothing.
use Rattle.std.specs.Prelude.{ℕ}
use Rattle.bits.specs.Bits.{with_bit, without_bit}
use Rattle.tiers.specs.Tiers.{empty}
use Rattle.tiers.specs.declared.NodeAt.{NodeAt}
use Rattle.tiers.specs.declared.CellAt.{CellAt}
use Rattle.node.specs.declared.MultiBitNode.{MultiBitNode}

abbrev pub node_as : ℕ → ℕ → NodeAt → CellAt → MultiBitNode
node_as rules children at cells = record { data_bitmap = rules; child_bitmap = children; children_idx = at; data_idx = cells }

-- no data, no children, no blocks
abbrev pub empty_node : MultiBitNode
empty_node = node_as 0 0 (record { 0 = empty }) (record { 0 = empty })

-- the node with a data bit set, or clear
abbrev pub set_data : MultiBitNode → ℕ → MultiBitNode
set_data n bit = node_as (with_bit n.data_bitmap bit) n.child_bitmap n.children_idx n.data_idx

abbrev pub unset_data : MultiBitNode → ℕ → MultiBitNode
unset_data n bit = node_as (without_bit n.data_bitmap bit) n.child_bitmap n.children_idx n.data_idx

-- the node with a child bit set, or clear
abbrev pub set_child : MultiBitNode → ℕ → MultiBitNode
set_child n bit = node_as n.data_bitmap (with_bit n.child_bitmap bit) n.children_idx n.data_idx

abbrev pub unset_child : MultiBitNode → ℕ → MultiBitNode
unset_child n bit = node_as n.data_bitmap (without_bit n.child_bitmap bit) n.children_idx n.data_idx
