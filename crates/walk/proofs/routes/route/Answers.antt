-- `walk::routes::route` meets its contract. The loop's invariant: the walk stands in the tree at its level, and what is left of it gives the whole route.
-- The measure falls with the depth. Assumes nothing.
use mathlib.Core.Path.{◌≡◌, sym, ◌∙◌}
use mathlib.Core.List.{List}
use Prim.Native.Nat.{ℕ}
use native.Mathlib.Omega.{arith}
use Rattle.std.proofs.Common.{rules}
use lib.ListN.{set}
use Rattle.std.proofs.lemmas.List.{map-set}
use Rattle.node.specs.declared.MultiBitNode.{MultiBitNode}
use Rattle.walk.specs.declared.Passed.{Passed}
use Rattle.walk.specs.Passages.{passed_as, places_of, nodes_of}
use Rattle.walk.proofs.Turns.{at_root, stands, deeper, route_no_root, route_root, route_unsound, route_refused, route_end, route_down}
use Rattle.walk.proofs.routes.route.Goals as goal

-- one step more is one position more and one node more
more_places : (l : List Passed) (i at : ℕ) (x : MultiBitNode) → places_of (set l i (passed_as at x)) ≡ set (places_of l) i at
more_places l i at x = map-set (λ s. s.at) l i (passed_as at x)

more_nodes : (l : List Passed) (i at : ℕ) (x : MultiBitNode) → nodes_of (set l i (passed_as at x)) ≡ set (nodes_of l) i x
more_nodes l i at x = map-set (λ s. s.node) l i (passed_as at x)

pub returns-then-lim-eq0 : goal.returns-then-lim-eq0
returns-then-lim-eq0 c =
    let a = c.args in
    route_no_root a.nodes.now a.lim a.key a.len c.empty.result c.empty.ensures c.if-lim-eq0.true

pub loop-x-init : goal.loop-x-init
loop-x-init c =
    let a = c.args in
    let e = c.root-v.ensures in
    let f = c.if-lim-eq0.false in
    rw (e.0, e.1, e.2) (at_root a.lim a.len c.requires.0 f, omega arith, route_root a.nodes.now a.lim a.key a.len c.empty.result c.empty.ensures f)

pub returns-then-not-sound : goal.returns-then-not-sound
returns-then-not-sound c =
    let w = c.loop-x in
    let unsound = route_unsound c.args.nodes.now w.v.key w.invariant.0 c.load-x.ensures (places_of w.steps) (nodes_of w.steps) w.invariant.1 in
    rw (more_places w.steps w.level w.at c.load-x.result, more_nodes w.steps w.level w.at c.load-x.result)
    (unsound (sym c.sound.ensures ∙ c.if-not-sound.true) ∙ w.invariant.2)

pub below-v-requires : goal.below-v-requires
below-v-requires c =
    let w = c.loop-x in
    deeper w.v.key c.load-x.result c.in-Ok-Some.child w.invariant.0 c.next_step.ensures (search rules)

pub loop-x-preserved : goal.loop-x-preserved
loop-x-preserved c =
    let w = c.loop-x in
    let next = c.in-Ok-Some.child in
    let e = c.below-v.ensures in
    let down =
    route_down c.args.nodes.now w.v.key w.invariant.0 c.load-x.ensures (places_of w.steps) (nodes_of w.steps) w.invariant.1 (sym c.sound.ensures ∙ c.if-not-sound.false)
    c.next_step.ensures next (search rules)
    in
    rw (e.0, e.1, e.2, more_places w.steps w.level w.at c.load-x.result, more_nodes w.steps w.level w.at c.load-x.result) (
      stands w.v.key c.load-x.result next w.invariant.0 c.next_step.ensures (search rules),
      omega (arith, w.invariant.1),
      down ∙ w.invariant.2,
    )

pub returns-in-Ok-None : goal.returns-in-Ok-None
returns-in-Ok-None c =
    let w = c.loop-x in
    let ends = route_end c.args.nodes.now w.v.key w.invariant.0 c.load-x.ensures (places_of w.steps) (nodes_of w.steps) w.invariant.1 (sym c.sound.ensures ∙ c.if-not-sound.false) in
    rw (more_places w.steps w.level w.at c.load-x.result, more_nodes w.steps w.level w.at c.load-x.result)
    (ends c.next_step.ensures (search rules) ∙ w.invariant.2)

pub returns-in-Err : goal.returns-in-Err
returns-in-Err c =
    let w = c.loop-x in
    let refused = route_refused c.args.nodes.now w.v.key w.invariant.0 c.load-x.ensures (places_of w.steps) (nodes_of w.steps) w.invariant.1 (sym c.sound.ensures ∙ c.if-not-sound.false) in
    rw (more_places w.steps w.level w.at c.load-x.result, more_nodes w.steps w.level w.at c.load-x.result)
    (refused c.next_step.ensures c.in-Err.r (search rules) ∙ w.invariant.2)
