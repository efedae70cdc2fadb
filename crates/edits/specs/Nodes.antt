-- A node with another block of rules or of children: what an edit writes. Assumes nothing.
use Rattle.std.specs.Prelude.{ℕ}
use Rattle.node.specs.declared.MultiBitNode.{MultiBitNode}
use Rattle.node.specs.Nodes.{node_as}

-- the node with these rules, their cells at s
abbrev pub with_rules : MultiBitNode → ℕ → ℕ → MultiBitNode
with_rules x bitmap s = node_as bitmap x.child_bitmap x.children_idx (record { 0 = s })

-- the node with these children, at s
abbrev pub with_children : MultiBitNode → ℕ → ℕ → MultiBitNode
with_children x bitmap s = node_as x.data_bitmap bitmap (record { 0 = s }) x.data_idx
