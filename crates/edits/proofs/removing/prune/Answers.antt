-- `edits::prune` meets its contract: what is left to write gives the whole. Assumes nothing.
use Rattle.edits.proofs.WayUp.{up_on, up_stop, up_end}
use Rattle.edits.proofs.removing.prune.Goals as goal

pub loop-i-preserved : goal.loop-i-preserved
loop-i-preserved c =
    let l = c.loop-i in
    let t = c.args.t.now in
    up_on t.places t.nodes c.args.key _ l.i l.q l.nodes l.list l.go c.loop-i-test.true c.if-not-go.false l.invariant
    c.step-parent.ensures.1 c.step-parent.ensures.0 c.up-q.ensures c.last_child-go.ensures

pub returns-after-loop-i : goal.returns-after-loop-i
returns-after-loop-i c =
    let l = c.loop-i in
    let t = c.args.t.now in
    up_end t.places t.nodes c.args.key _ l.i l.q l.nodes l.list l.go c.loop-i-test.false l.invariant

pub returns-then-not-go : goal.returns-then-not-go
returns-then-not-go c =
    let l = c.loop-i in
    let t = c.args.t.now in
    up_stop t.places t.nodes c.args.key _ l.i l.q l.nodes l.list l.go c.if-not-go.true l.invariant
