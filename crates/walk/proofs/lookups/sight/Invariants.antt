-- `walk::lookups::sight` meets its contract. The loop's invariant: the walk stands in the tree, and what is left of it gives the whole answer.
-- The measure falls with the depth. Assumes nothing.
use mathlib.Core.Path.{◌≡◌}
use Prim.Native.Nat.{◌-◌}
use Rattle.walk.specs.Lookups.{walk_from, walk_of}
use Rattle.walk.proofs.Turns.{left, Standing}
use Rattle.walk.proofs.lookups.sight.Given as goal

abbrev pub invariant-loop-look : goal.invariant-loop-look
invariant-loop-look g l =
    let w = g.L.Lookup.way in
    Standing l.lim l.v.len l.at l.v.depth
    × (walk_from w (left l.v.depth) l.nodes l.lim l.v.key l.v.len l.at l.v.depth (g.L.Lookup.seen l.look) ≡ walk_of w l.nodes l.lim l.key l.len)

abbrev pub decreases-loop-look : goal.decreases-loop-look
decreases-loop-look g l = 35 - l.v.depth
