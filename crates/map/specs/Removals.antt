-- Remove (document 01): refused, or the rule's value taken, then empty nodes given back from the bottom up. Assumes nothing.
use Rattle.std.specs.Prelude.{Result, Ok, Err, ℕ, ◌+◌, ◌-◌, ◌/◌, cond, leb, eqb, length, get_or}
use Rattle.bits.specs.Bits.{has, set_below}
use Rattle.prefix.specs.Prefix.{masked}
use Rattle.tiers.specs.Tiers.{stride}
use Rattle.places.specs.Places.{data_bit}
use Rattle.node.specs.declared.MultiBitNode.{MultiBitNode}
use Rattle.node.specs.Nodes.{empty_node}
use Rattle.store.specs.Words.{cell_at}
use Rattle.refusals.specs.declared.Refusal.{Refusal}
use Rattle.refusals.specs.Numbers.{number_of}
use Rattle.walk.specs.declared.Trail.{Trail}
use Rattle.walk.specs.Trails.{trail_of}
use Rattle.entry.specs.First.{edit_first}
use Rattle.edits.specs.Removing.{drop_ask_of, drop_of, last_rule, prune_ask_of, prune_of}
use Rattle.map.specs.declared.State.{State}
use Rattle.map.specs.declared.Answer.TheVariants.{Removed}
use Rattle.map.specs.declared.Edited.{Edited}
use Rattle.map.specs.Memory.{Memory, memory, state_as, edited, refuse}

-- the rule is stored in the node x where the trail ends, at level i: rule count, data block, then the emptied chain
unfoldable pub taken_of : State → Memory → ℕ → ℕ → Trail → ℕ → MultiBitNode → Edited × Memory
taken_of s m key len t i x =
    let b = data_bit key len in
    let a = drop_ask_of s.cells m.cell_free x in
    let u = prune_ask_of i s.nodes s.nodes.mark m.node_free t.nodes (last_rule x) in
    let y = drop_of s.cells m.nodes m.cells m.cell_free (get_or t.places i 0) x b in
    let z = prune_of i s.nodes y.1 m.node_free t.places t.nodes key (last_rule x) in
    cond (eqb s.rules 0) (refuse 5 s m)
    (cond (eqb a 0)
    (cond (eqb u 0) (
      edited (Removed key len (cell_at m.cells (x.data_idx.0 + set_below x.data_bitmap b)).value) (state_as z.0 y.0 (s.rules - 1)),
      memory z.1 y.2 z.2 y.3,
    )
    (refuse u s m))
    (refuse a s m))

-- after its walk: refused, or the rule is looked for in the node where the trail ends
unfoldable pub walked_of : State → Memory → ℕ → ℕ → Result Trail Refusal → Edited × Memory
walked_of s m key len (Err r) = refuse (number_of r) s m
walked_of s m key len (Ok t) =
    let i = t.depth / stride in
    let x = get_or t.nodes i empty_node in
    cond (leb (t.depth + stride) len) (refuse 2 s m) (cond (has x.data_bitmap (data_bit key len)) (taken_of s m key len t i x) (refuse 2 s m))

unfoldable pub remove_of : State → Memory → ℕ → ℕ → Edited × Memory
remove_of s m key len =
    let n = edit_first s.nodes s.cells s.rules (length m.nodes) (length m.cells) (length m.node_free) (length m.cell_free) key len in
    let k = masked key len in
    cond (eqb n 0) (walked_of s m k len (trail_of m.nodes s.nodes.mark k len)) (refuse n s m)
