-- `places::level_of` meets its contract: the highest bit of the bit plus one. Assumes nothing.
use native.Mathlib.Omega.{arith}
use Rattle.places.proofs.Levels.{level_top}
use Rattle.places.proofs.level_of.Goals as goal

pub overflow_sub-result : goal.overflow_sub-result
overflow_sub-result c = omega (arith, level_top c.bit.inside.number (rw c.bit.view_is c.requires))

pub returns : goal.returns
returns c = rw (← c.bit.view_is) (omega (arith, level_top c.bit.inside.number (rw c.bit.view_is c.requires)))
