use Rattle.bits.proofs.Slots.{count_ones}
use Rattle.bits.proofs.count_bits.Goals as goal

pub returns : goal.returns
returns c = count_ones 32 c.ranges.bitmap.fits
