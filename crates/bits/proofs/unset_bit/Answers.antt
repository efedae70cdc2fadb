use mathlib.Core.Path.{ap, ◌∙◌}
use Prim.Native.Nat.{ℕ, ◌-◌, ◌^◌}
use lib.Bits.{bit_and}
use Rattle.bits.proofs.OneBit.{one_shl, and_without}
use Rattle.bits.proofs.unset_bit.Goals as goal

pub returns : goal.returns
returns c =
    let b = c.bit in
    rw (← b.view_is) (
    ap (λ (x : ℕ). bit_and c.args.bitmap ((2 ^ 32 - 1) - x)) (one_shl 32 b.invariant)
    ∙ and_without 32 c.args.bitmap b.inside.number c.ranges.bitmap.fits b.invariant
    )
