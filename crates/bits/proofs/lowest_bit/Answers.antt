use Rattle.bits.proofs.Ends.{lowest_law}
use Rattle.bits.proofs.lowest_bit.Goals as goal

pub returns : goal.returns
returns c = lowest_law 32 c.args.bitmap c.requires c.ranges.bitmap.fits
