-- `order::extend_repr` meets its contract, where the child lies in the key and where it runs past it. Assumes nothing.
use native.Mathlib.Omega.{arith}
use borrow.Author.Rules.{rules}
use Rattle.order.proofs.Keys.{child_in, child_past}
use Rattle.order.proofs.extend_repr.Goals as goal

pub returns-then-depth-lt32 : goal.returns-then-depth-lt32
returns-then-depth-lt32 c = omega (arith, child_in c.args.key c.args.depth c.args.offset c.mask_key-root.ensures (omega arith) (search rules))

pub returns-else-depth-lt32 : goal.returns-else-depth-lt32
returns-else-depth-lt32 c = omega (arith, child_past c.args.key c.args.depth c.args.offset c.mask_key-root.ensures (omega arith) (omega arith) (search rules))
