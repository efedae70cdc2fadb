-- `edits::prune_ask` meets its contract. The loop's invariant: what is left to ask gives the number of the whole, on a running list
-- that singles came back to. Assumes nothing.
use Prim.Native.Nat.{◌/◌}
use Rattle.tiers.specs.Tiers.{stride}
use Rattle.edits.specs.Removing.{prune_ask_of}
use Rattle.edits.proofs.WayUp.{Asking}
use Rattle.edits.proofs.removing.prune_ask.Given as goal

abbrev pub invariant-loop-i : goal.invariant-loop-i
invariant-loop-i l = Asking l.p.mark l.list l.t.nodes (prune_ask_of (l.t.depth / stride) l.p l.p.mark l.list l.t.nodes l.bare) l.i l.q l.go l.spare
