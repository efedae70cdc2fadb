-- `edits::prune` meets its contract. The loop's invariant: what is left to write gives the whole. Assumes nothing.
use mathlib.Core.Path.{◌≡◌}
use Prim.Native.Nat.{◌/◌}
use Rattle.tiers.specs.Tiers.{stride}
use Rattle.edits.specs.Removing.{prune_of}
use Rattle.edits.proofs.removing.prune.Given as goal

abbrev pub invariant-loop-i : goal.invariant-loop-i
invariant-loop-i l =
    let s = l.initial in
    prune_of l.i l.q l.nodes l.list l.t.places l.t.nodes l.key l.go ≡ prune_of (l.t.depth / stride) s.q s.nodes s.list l.t.places l.t.nodes l.key l.bare
