-- `tiers::tier_of` meets its contract: the first tier that holds the count, the last where none below it does. Assumes nothing.
use native.Mathlib.Omega.{arith}
use Rattle.std.proofs.Common.{below_more}
use Rattle.tiers.specs.Tiers.{child_spacings}
use Rattle.tiers.proofs.Tiers.{spacing_entry, first_holds, none_holds}
use Rattle.tiers.proofs.tier_of.Goals as goal

pub returns-then-count-t : goal.returns-then-count-t
returns-then-count-t c =
    first_holds c.args.count c.loop-t.t (omega arith) (omega (arith, spacing_entry child_spacings c.loop-t.t 0 (omega arith))) c.loop-t.invariant

pub loop-t-preserved : goal.loop-t-preserved
loop-t-preserved c =
    below_more _ _ c.loop-t.invariant (omega (arith, spacing_entry child_spacings c.loop-t.t 0 (omega arith)))

pub returns : goal.returns
returns c = none_holds c.args.count (λ u h. c.loop-t.invariant u (omega arith))
