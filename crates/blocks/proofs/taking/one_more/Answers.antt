-- `blocks::taking::one_more` meets its contract: a section is no longer than the pool. Assumes nothing.
use mathlib.Core.Path.{sym, ◌∙◌}
use native.Mathlib.Omega.{arith}
use borrow.Author.Tests.{ltb-true}
use Rattle.tiers.specs.Tiers.{spacings}
use Rattle.tiers.proofs.Sections.{section_le}
use Rattle.blocks.proofs.taking.one_more.Goals as goal

pub overflow_add-result : goal.overflow_add-result
overflow_add-result c =
    omega (arith, ltb-true _ _ (sym c.has_room.ensures ∙ c.if-has_room.true), section_le (spacings c.args.top) c.args.size c.args.tier)
