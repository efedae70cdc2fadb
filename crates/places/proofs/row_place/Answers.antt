-- `places::row_place` meets its contract: the window of four bits, inside the key and past its end. Assumes nothing.
use native.Mathlib.Omega.{arith}
use Rattle.places.proofs.Windows.{four_in, four_past}
use Rattle.places.proofs.row_place.Goals as goal

pub returns-then-depth-le33 : goal.returns-then-depth-le33
returns-then-depth-le33 c = four_in c.args.key c.args.depth (omega arith)

pub returns-else-depth-le33 : goal.returns-else-depth-le33
returns-else-depth-le33 c = four_past c.args.key c.args.depth (omega arith) (omega arith)
