-- `blocks::Pool::sections` meets its contract: a section that does not hold its count decides. Assumes nothing.
use mathlib.Core.Path.{sym}
use native.Mathlib.Omega.{arith}
use Rattle.blocks.proofs.Ways.{sections_over, sections_in}
use Rattle.blocks.proofs.Pool.sections.Goals as goal

pub returns-then-over : goal.returns-then-over
returns-then-over c =
    let a = c.args.self in
    sym (sections_over c.args.top a.size a.free c.spacings_of-spacings.result c.spacings_of-spacings.ensures c.requires c.loop-t.t (omega arith) c.over.result c.over.ensures c.if-over.true)

pub loop-t-preserved : goal.loop-t-preserved
loop-t-preserved c =
    let a = c.args.self in
    sections_in c.args.top a.size a.free c.spacings_of-spacings.result c.spacings_of-spacings.ensures c.requires c.loop-t.t (omega arith) c.over.result c.over.ensures c.if-over.false
    c.loop-t.invariant
