use mathlib.Core.Path.{sym, ap, ◌∙◌, subst}
use Prim.Native.Nat.{ℕ, ◌-◌, ◌≤◌}
use lib.Bits.{bit_and, and_mask}
use lib.Count.{ones}
use lib.Pow.{pow_pos}
use Rattle.bits.proofs.OneBit.{one_shl}
use Rattle.bits.proofs.Slots.{below_ones}
use Rattle.bits.proofs.compute_slot.Goals as goal

pub overflow_sub-result : goal.overflow_sub-result
overflow_sub-result c = subst (λ (x : ℕ). 1 ≤ x) (sym (one_shl 32 c.bit.invariant)) (pow_pos c.bit.inside.number)

pub returns : goal.returns
returns c =
    let b = c.bit in
    let n = b.inside.number in
    rw (← b.view_is) (
    ap (λ (x : ℕ). ones (bit_and c.args.bitmap (x - 1))) (one_shl 32 b.invariant)
    ∙ ap ones (and_mask c.args.bitmap n) ∙ below_ones c.args.bitmap n
    )
