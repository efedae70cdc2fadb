-- What an ask answers is pinned down: any two outcomes that a contract of `blocks` allows are equal. Assumes nothing.
-- Of a Result with no value that is `ended_same` of `refusals`, of one with a pool `valued_same`.
use mathlib.Core.Path.{◌≡◌, refl}
use Rattle.refusals.specs.Numbers.{ended}
use Rattle.refusals.proofs.Numbers.{ended_same}
use Rattle.blocks.specs.declared.Asked.{Asked}

-- the number of what was asked and the pool after it
pub asked_same : (a b : Asked) → ended a.done ≡ ended b.done → a.pool ≡ b.pool → a ≡ b
asked_same a b e f = rw (ended_same a.done b.done e, f) refl
