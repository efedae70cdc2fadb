-- `store::lift` meets its contract. The loop's invariant: lifting the first i items gives the whole lift's result. Assumes nothing.
use mathlib.Core.Path.{◌≡◌}
use Rattle.store.specs.Moves.{move_of, lift_of}
use Rattle.store.proofs.lift.Given as goal

abbrev pub invariant-loop-i : goal.invariant-loop-i
invariant-loop-i g l =
    let t = g.T.Item in
    let move = move_of t.item_at t.save_item t.vacant in
    lift_of move l.i l.s l.a ≡ lift_of move l.n l.initial.s l.a
