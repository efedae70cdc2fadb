-- `places::child_bit` meets its contract: the five bits after the depth, by a shift and a mask. Assumes nothing.
use Rattle.places.proofs.Windows.{child_in}
use Rattle.places.proofs.child_bit.Goals as goal

pub returns : goal.returns
returns c = child_in c.args.key c.args.depth c.requires
