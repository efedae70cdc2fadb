-- `store::run` meets its contract. The loop's invariant: the first i items have gone. Assumes nothing.
use mathlib.Core.Path.{◌≡◌}
use Rattle.store.specs.Moves.{move_of, run_of}
use Rattle.store.proofs.run.Given as goal

abbrev pub invariant-loop-i : goal.invariant-loop-i
invariant-loop-i g l = let t = g.T.Item in l.s ≡ run_of (move_of t.item_at t.save_item t.vacant) l.i l.initial.s l.a l.b
