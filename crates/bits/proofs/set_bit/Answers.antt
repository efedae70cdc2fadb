use mathlib.Core.Path.{ap, ◌∙◌}
use lib.Bits.{bit_or}
use Rattle.bits.proofs.OneBit.{one_shl, or_with}
use Rattle.bits.proofs.set_bit.Goals as goal

pub returns : goal.returns
returns c = rw (← c.bit.view_is) (ap (bit_or c.args.bitmap) (one_shl 32 c.bit.invariant) ∙ or_with c.args.bitmap c.bit.inside.number)
