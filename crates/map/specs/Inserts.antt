-- Insert (document 01): refused, replaced, stored in the node at the path's end, or stored below it. Assumes nothing.
use Rattle.std.specs.Prelude.{Result, Ok, Err, ℕ, ◌+◌, ◌-◌, ◌/◌, cond, leb, eqb, length, get_or}
use Rattle.bits.specs.Bits.{has, count, set_below}
use Rattle.prefix.specs.Prefix.{masked}
use Rattle.tiers.specs.Tiers.{stride, data_top, child_top, empty}
use Rattle.places.specs.Places.{data_bit}
use Rattle.node.specs.declared.MultiBitNode.{MultiBitNode}
use Rattle.node.specs.Nodes.{empty_node}
use Rattle.blocks.specs.declared.Pool.{Pool}
use Rattle.blocks.specs.Growth.{grow_ask_of, chain_ask_of}
use Rattle.store.specs.declared.Cell.{Cell}
use Rattle.store.specs.Words.{cell_at, save_cell}
use Rattle.refusals.specs.declared.Refusal.{Refusal}
use Rattle.refusals.specs.Numbers.{number_of}
use Rattle.walk.specs.declared.Trail.{Trail}
use Rattle.walk.specs.Steps.{data_within}
use Rattle.walk.specs.Trails.{trail_of}
use Rattle.entry.specs.First.{edit_first}
use Rattle.edits.specs.Adding.{keep_of, make_of}
use Rattle.map.specs.declared.State.{State}
use Rattle.map.specs.declared.Answer.TheVariants.{Added, Replaced}
use Rattle.map.specs.declared.Edited.{Edited}
use Rattle.map.specs.Memory.{Memory, memory, state_as, edited, refuse}

-- the rule is stored in the node x already: its value is replaced
unfoldable pub replace_of : State → Memory → ℕ → ℕ → Cell → MultiBitNode → Edited × Memory
replace_of s m key len v x =
    let i = x.data_idx.0 + set_below x.data_bitmap (data_bit key len) in
    cond (data_within s.cells.mark (count x.data_bitmap) x.data_idx.0)
    (edited (Replaced key len (cell_at m.cells i).value) s, memory m.nodes (save_cell m.cells i v) m.node_free m.cell_free)
    (refuse 5 s m)

-- a new rule: pools, rule count and answer
abbrev pub added_of : State → ℕ → ℕ → Pool → Pool → Edited
added_of s key len p q = edited (Added key len) (state_as p q (s.rules + 1))

-- a new rule in the node x at `at`
unfoldable pub here_of : State → Memory → ℕ → ℕ → Cell → ℕ → MultiBitNode → Edited × Memory
here_of s m key len v at x =
    let n = (grow_ask_of s.cells data_top s.cells.mark m.cell_free x.data_idx.0 (count x.data_bitmap)).number in
    let k = keep_of s.cells m.nodes m.cells m.cell_free at x (data_bit key len) v in
    cond (eqb n 0) (added_of s key len s.nodes k.0, memory k.1 k.2 m.node_free k.3) (refuse n s m)

-- a new rule below the node x at `at`, depth d: first the missing nodes, then the data
unfoldable pub below_of : State → Memory → ℕ → ℕ → Cell → ℕ → ℕ → MultiBitNode → Edited × Memory
below_of s m key len v at d x =
    let n = (len - d) / stride in
    let a = chain_ask_of s.nodes child_top m.node_free x.children_idx.0 (count x.child_bitmap) n in
    let c = (grow_ask_of s.cells data_top s.cells.mark m.cell_free empty 0).number in
    let y = make_of s.nodes m.nodes m.node_free at x d key n in
    let k = keep_of s.cells y.1 m.cells m.cell_free y.0.at empty_node (data_bit key len) v in
    cond (eqb a 0) (cond (eqb c 0) (added_of s key len y.0.pool k.0, memory k.1 k.2 y.2 k.3) (refuse c s m)) (refuse a s m)

-- at the node x where the path ends
unfoldable pub arrived_of : State → Memory → ℕ → ℕ → Cell → ℕ → ℕ → MultiBitNode → Edited × Memory
arrived_of s m key len v at d x =
    cond (leb (d + stride) len) (below_of s m key len v at d x)
    (cond (has x.data_bitmap (data_bit key len)) (replace_of s m key len v x) (here_of s m key len v at x))

-- after its walk: refused, or at the node where the trail ends
unfoldable pub walked_of : State → Memory → ℕ → ℕ → Cell → Result Trail Refusal → Edited × Memory
walked_of s m key len v (Err r) = refuse (number_of r) s m
walked_of s m key len v (Ok t) = let i = t.depth / stride in arrived_of s m key len v (get_or t.places i 0) t.depth (get_or t.nodes i empty_node)

unfoldable pub insert_of : State → Memory → ℕ → ℕ → Cell → Edited × Memory
insert_of s m key len v =
    let n = edit_first s.nodes s.cells s.rules (length m.nodes) (length m.cells) (length m.node_free) (length m.cell_free) key len in
    let k = masked key len in
    cond (eqb n 0) (walked_of s m k len v (trail_of m.nodes s.nodes.mark k len)) (refuse n s m)
