-- `walk::routes::route` meets its contract. The loop's invariant: the walk stands in the tree at its level, and what is left of it gives the whole route.
-- The measure falls with the depth. Assumes nothing.
use mathlib.Core.Path.{◌≡◌}
use Prim.Native.Nat.{◌-◌, ◌/◌}
use Rattle.tiers.specs.Tiers.{stride}
use Rattle.walk.specs.Passages.{places_of, nodes_of}
use Rattle.walk.specs.Trails.{route_from, route_of}
use Rattle.walk.proofs.Turns.{left, Standing}
use Rattle.walk.proofs.routes.route.Given as goal

abbrev pub invariant-loop-x : goal.invariant-loop-x
invariant-loop-x l =
    Standing l.lim l.v.len l.at l.v.depth × (l.level ≡ l.v.depth / stride)
    × (route_from (left l.v.depth) l.nodes l.lim l.v.key l.v.len l.at l.v.depth (places_of l.steps) (nodes_of l.steps) ≡ route_of l.nodes l.lim l.key l.len)

abbrev pub decreases-loop-x : goal.decreases-loop-x
decreases-loop-x l = 35 - l.v.depth
