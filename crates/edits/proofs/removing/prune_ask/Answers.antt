-- `edits::prune_ask` meets its contract: what is left to ask gives the number of the whole, on a running list that singles came back to. Assumes nothing.
use mathlib.Core.Path.{◌≡◌, refl}
use borrow.Author.Rules.{rules}
use lib.ListN.{length}
use Rattle.std.proofs.lemmas.Result.{err_from_is_err_and}
use Rattle.refusals.specs.Numbers.{number_of}
use Rattle.refusals.proofs.Numbers.{number_some}
use Rattle.blocks.proofs.Shape.{in_shape}
use Rattle.edits.proofs.WayUp.{ask_start, ask_stop, ask_no, ask_on, ask_end}
use Rattle.edits.proofs.removing.prune_ask.Goals as goal

pub loop-i-init : goal.loop-i-init
loop-i-init c =
    let a = c.args in
    let tiers : length a.p.free ≡ 7 = search rules in
    rw c.level-i.ensures.0 (ask_start _ a.list.now a.t.now.nodes _ a.p a.bare (in_shape a.p 32 a.list.now c.requires.0 c.requires.1 tiers))

pub returns-then-not-go : goal.returns-then-not-go
returns-then-not-go c = ask_stop _ c.args.list.now c.args.t.now.nodes _ c.loop-i.i c.loop-i.invariant c.if-not-go.true

pub returns-after-loop-i : goal.returns-after-loop-i
returns-after-loop-i c = ask_end _ c.args.list.now c.args.t.now.nodes _ c.loop-i.i c.loop-i.invariant c.loop-i-test.false

-- the parent that the code reads is that of the level
pub loop-i-preserved : goal.loop-i-preserved
loop-i-preserved c =
    let l = c.loop-i in
    let a = c.args in
    let g = c.in_ok-q.ensures in
    ask_on _ a.list.now a.t.now.nodes _ l.q l.go l.spare _ c.child_count.result 0 c.child_count.ensures g.number l.i l.invariant c.loop-i-test.true
    c.if-not-go.false c.step.ensures.1 refl g.pool c.last_child-go.ensures

pub returns-in_err-q : goal.returns-in_err-q
returns-in_err-q c =
    let l = c.loop-i in
    let a = c.args in
    let g = c.in_err-q.field-0.0 in
    let e = err_from_is_err_and c.from_residual.result c.from_residual.ensures.1 in
    rw (e.1, e.2)
    (ask_no _ a.list.now a.t.now.nodes _ l.q l.go l.spare _ c.child_count.result (number_of g) c.child_count.ensures c.in_err-q.ensures.number l.i l.invariant
    c.loop-i-test.true c.if-not-go.false c.step.ensures.1 (number_some g))
