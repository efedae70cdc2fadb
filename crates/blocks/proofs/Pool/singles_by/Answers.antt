-- `blocks::Pool::singles_by` meets its contract: what is left to ask gives the number of the whole. Assumes nothing.
use native.Mathlib.Omega.{arith}
use Rattle.std.proofs.lemmas.Result.{err_from_is_err_and}
use Rattle.refusals.specs.Numbers.{number_of}
use Rattle.refusals.proofs.Numbers.{number_some}
use Rattle.blocks.proofs.Ways.{singles_stop, singles_on, singles_end}
use Rattle.blocks.proofs.Pool.singles_by.Goals as goal

pub returns-in_err-ask_found_by : goal.returns-in_err-ask_found_by
returns-in_err-ask_found_by c =
    let top = c.args.top in
    let a = c.args in
    let i = c.loop in
    let r = c.in_err-ask_found_by.field-0.0 in
    let p = err_from_is_err_and c.from_residual.result c.from_residual.ensures.1 in
    rw (p.1, p.2) (singles_stop top a.lim a.list.now _ a.n i.counter i.p i.first (number_of r) (omega arith) c.in_err-ask_found_by.ensures (number_some r) i.invariant)

pub loop-preserved : goal.loop-preserved
loop-preserved c =
    let a = c.args in
    let i = c.loop in
    singles_on c.args.top a.lim a.list.now _ a.n i.counter i.p i.first c.less_by-p.result (omega arith) c.in_ok-ask_found_by.ensures c.less_by-p.ensures i.invariant

pub returns : goal.returns
returns c =
    let a = c.args in
    let i = c.loop in
    singles_end c.args.top a.lim a.list.now _ a.n i.counter i.p i.first (omega arith) i.invariant
