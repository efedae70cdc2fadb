-- `map::lookups::answer` meets its contract: the cell of the rule that was seen stands within the slice. Assumes nothing.
use mathlib.Core.Path.{sym, ◌∙◌}
use native.Mathlib.Omega.{arith}
use Rattle.map.proofs.Sighted.{rule_told, rule_cell}
use Rattle.map.proofs.lookups.answer.Goals as goal

pub at-c-requires : goal.at-c-requires
at-c-requires c =
    let a = c.args in
    let t = rule_told a.key a.sight _ c.in-Some.rule c.in-Ok.is c.in-Some.is c.requires.0 in
    let h = rule_cell a.key c.in-Some.rule t a.cells.now a.lim c.requires.1 (sym c.data_within.ensures ∙ c.if-not-data_within.false) in
    omega (arith, c.wide.ensures, c.wide-2.ensures, c.compute_slot.ensures, h)
