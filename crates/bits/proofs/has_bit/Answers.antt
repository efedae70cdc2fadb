use mathlib.Core.Path.{ap, ◌∙◌}
use mathlib.Core.Bool.{not}
use Prim.Native.Nat.{ℕ}
use lib.Dec.{eqb}
use lib.Bits.{bit_and}
use Rattle.bits.proofs.OneBit.{one_shl, and_test}
use Rattle.bits.proofs.has_bit.Goals as goal

pub returns : goal.returns
returns c =
    rw (← c.bit.view_is) (
    ap (λ (x : ℕ). not (eqb (bit_and c.args.bitmap x) 0)) (one_shl 32 c.bit.invariant) ∙ and_test c.args.bitmap c.bit.inside.number
    )
