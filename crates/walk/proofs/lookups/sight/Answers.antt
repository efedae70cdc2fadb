-- `walk::lookups::sight` meets its contract. The loop's invariant: the walk stands in the tree, and what is left of it gives the whole answer.
-- The measure falls with the depth. Assumes nothing.
use mathlib.Core.Path.{sym, ◌∙◌}
use Rattle.std.proofs.Common.{rules}
use Rattle.std.proofs.lemmas.Result.{err_from_is_err_and}
use Rattle.walk.proofs.Turns.{at_root, stands, deeper, no_root, from_root, walk_no_rules, last_stop, last_end, step_refused, on_down}
use Rattle.walk.proofs.lookups.sight.Goals as goal

pub returns-then-lim-eq0 : goal.returns-then-lim-eq0
returns-then-lim-eq0 g c =
    let a = c.args in
    no_root a.nodes.now a.lim a.key a.len g.L.Lookup.way c.if-lim-eq0.true

pub loop-look-init : goal.loop-look-init
loop-look-init g c =
    let a = c.args in
    let e = c.root-v.ensures in
    let f = c.if-lim-eq0.false in
    rw (e.0, e.1, e.2, c.requires.2) (at_root a.lim a.len c.requires.0 f, from_root a.nodes.now a.lim a.key a.len g.L.Lookup.way f)

pub returns-then-not-data_whole : goal.returns-then-not-data_whole
returns-then-not-data_whole g c =
    let w = c.loop-look in
    walk_no_rules c.args.nodes.now w.v.key w.invariant.0 c.load-x.ensures g.L.Lookup.way (g.L.Lookup.seen w.look) c.data_whole.ensures c.if-not-data_whole.true
    ∙ w.invariant.1

pub returns-then-stops : goal.returns-then-stops
returns-then-stops g c =
    let w = c.loop-look in
    let m = c.meet-look in
    let last = last_stop c.args.nodes.now w.v.key w.invariant.0 c.load-x.ensures g.L.Lookup.way (g.L.Lookup.seen w.look) c.data_whole.ensures c.if-not-data_whole.false m.ensures in
    c.last.ensures ∙ last (sym c.stops.ensures ∙ c.if-stops.true) c.tell.result c.tell.ensures ∙ w.invariant.1

pub returns-in_err-child : goal.returns-in_err-child
returns-in_err-child g c =
    let w = c.loop-look in
    let m = c.meet-look in
    let refused = step_refused c.args.nodes.now w.v.key w.invariant.0 c.load-x.ensures g.L.Lookup.way (g.L.Lookup.seen w.look) c.data_whole.ensures c.if-not-data_whole.false m.ensures in
    let p = err_from_is_err_and c.from_residual.result c.from_residual.ensures.1 in
    rw (p.1, p.2) (refused (sym c.stops.ensures ∙ c.if-stops.false) c.next_step.result c.next_step.ensures _ c.in_err-child.was ∙ w.invariant.1)

pub below-v-requires : goal.below-v-requires
below-v-requires g c =
    let w = c.loop-look in
    deeper w.v.key c.load-x.result c.in-Some.child w.invariant.0 c.next_step.ensures (search rules)

pub loop-look-preserved : goal.loop-look-preserved
loop-look-preserved g c =
    let w = c.loop-look in
    let m = c.meet-look in
    let next = c.in-Some.child in
    let e = c.below-v.ensures in
    let down = on_down c.args.nodes.now w.v.key w.invariant.0 c.load-x.ensures g.L.Lookup.way (g.L.Lookup.seen w.look) c.data_whole.ensures c.if-not-data_whole.false m.ensures in
    rw (e.0, e.1, e.2) (
      stands w.v.key c.load-x.result next w.invariant.0 c.next_step.ensures (search rules),
      down (sym c.stops.ensures ∙ c.if-stops.false) c.next_step.result c.next_step.ensures c.ranges.lim.fits next (search rules) ∙ w.invariant.1,
    )

pub returns-in-None : goal.returns-in-None
returns-in-None g c =
    let w = c.loop-look in
    let m = c.meet-look in
    let last = last_end c.args.nodes.now w.v.key w.invariant.0 c.load-x.ensures g.L.Lookup.way (g.L.Lookup.seen w.look) c.data_whole.ensures c.if-not-data_whole.false m.ensures in
    c.last-in-None.ensures
    ∙ last (sym c.stops.ensures ∙ c.if-stops.false) c.next_step.result c.next_step.ensures (search rules) c.tell-in-None.result c.tell-in-None.ensures
    ∙ w.invariant.1
