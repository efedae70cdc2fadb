use mathlib.Core.Path.{◌≡◌, subst}
use Prim.Native.Nat.{◌-◌}
use native.Mathlib.Omega.{arith}
use lib.Count.{count_leading_zeros}
use Rattle.bits.specs.Bits.{Highest}
use Rattle.bits.proofs.Ends.{highest_law}
use Rattle.bits.proofs.highest_bit.Goals as goal

pub overflow_sub-result : goal.overflow_sub-result
overflow_sub-result c = let h = highest_law 32 c.args.bitmap c.requires c.ranges.bitmap.fits in omega arith

pub returns : goal.returns
returns c =
    let h = highest_law 32 c.args.bitmap c.requires c.ranges.bitmap.fits in
    let e : h.0 ≡ 31 - count_leading_zeros 32 c.args.bitmap = omega arith in
    subst (Highest c.args.bitmap) e h.2
