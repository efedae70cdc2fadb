-- `tiers::section_start_of` meets its contract: each test that holds stops the sum at its section. Assumes nothing.
use native.Mathlib.Omega.{arith}
use native.Mathlib.Nat.{lt_of_le_of_lt, lt_trans}
use lib.Dec.{lit<, lit≤}
use Rattle.tiers.specs.Tiers.{child_spacings, spacing_of, section_length, section_start}
use Rattle.tiers.proofs.Sections.{start_lt, every_start}
use Rattle.tiers.proofs.section_start_of.Goals as goal

pub returns-then-n-eq0 : goal.returns-then-n-eq0
unfolding section_start section_length spacing_of
returns-then-n-eq0 c = every_start _ c.args.size c.args.tier 0 (omega arith) c.ranges.size.fits (omega arith) (omega arith)

pub returns-then-n-eq1 : goal.returns-then-n-eq1
unfolding section_start section_length spacing_of
returns-then-n-eq1 c = every_start _ c.args.size c.args.tier 1 (omega arith) c.ranges.size.fits (omega arith) (omega arith)

pub returns-then-n-eq2 : goal.returns-then-n-eq2
unfolding section_start section_length spacing_of
returns-then-n-eq2 c = every_start _ c.args.size c.args.tier 2 (omega arith) c.ranges.size.fits (omega arith) (omega arith)

pub returns-then-n-eq3 : goal.returns-then-n-eq3
unfolding section_start section_length spacing_of
returns-then-n-eq3 c = every_start _ c.args.size c.args.tier 3 (omega arith) c.ranges.size.fits (omega arith) (omega arith)

pub returns-then-n-eq4 : goal.returns-then-n-eq4
unfolding section_start section_length spacing_of
returns-then-n-eq4 c = every_start _ c.args.size c.args.tier 4 (omega arith) c.ranges.size.fits (omega arith) (omega arith)

pub returns-then-n-eq5 : goal.returns-then-n-eq5
unfolding section_start section_length spacing_of
returns-then-n-eq5 c = every_start _ c.args.size c.args.tier 5 (omega arith) c.ranges.size.fits (omega arith) (omega arith)

pub overflow_add-result : goal.overflow_add-result
unfolding section_start section_length spacing_of
overflow_add-result c = record {
  fits = lt_of_le_of_lt {m = section_start child_spacings c.args.size 6} (omega arith)
      (lt_trans (start_lt child_spacings c.args.size 6 (lit≤ tt) c.ranges.size.fits) (lit< tt));
}

pub returns : goal.returns
unfolding section_start section_length spacing_of
returns c = every_start _ c.args.size c.args.tier 6 (omega arith) c.ranges.size.fits (omega arith) (omega arith)
