-- `tiers::Kind::section_length` meets its contract: no spacing is 0. Assumes nothing.
use mathlib.Core.Path.{ap}
use Prim.Native.Nat.{ℕ, ◌/◌}
use Rattle.tiers.specs.Tiers.{section_length}
use Rattle.tiers.proofs.Tiers.{kind_pos}
use Rattle.tiers.proofs.Kind.section_length.Goals as goal

pub nonzero_div-result : goal.nonzero_div-result
nonzero_div-result g c = rw c.spacing.ensures (kind_pos g.Self.Kind.WIDEST c.args.tier g.met.Self.Kind.some_wide)

pub returns : goal.returns
unfolding section_length
returns g c = ap (λ (s : ℕ). c.args.size / s) c.spacing.ensures
