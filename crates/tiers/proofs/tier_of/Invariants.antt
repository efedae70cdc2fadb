-- `tiers::tier_of` meets its contract: the count is above every spacing that was passed. Assumes nothing.
use Prim.Native.Nat.{ℕ, ◌<◌}
use Rattle.tiers.specs.Tiers.{child_spacings, spacing_of}
use Rattle.tiers.proofs.tier_of.Given as goal

abbrev pub invariant-loop-t : goal.invariant-loop-t
invariant-loop-t l = (u : ℕ) → u < l.t → spacing_of child_spacings u < l.count
