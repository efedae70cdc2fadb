-- `walk::block_within` meets its contract: where the widest block fits, every block does. Assumes nothing.
use native.Mathlib.Omega.{arith}
use Rattle.bits.specs.Bits.{count}
use Rattle.tiers.specs.Tiers.{spacings}
use Rattle.walk.proofs.Within.{bound_fits}
use Rattle.walk.proofs.block_within.Goals as goal

pub returns-then-begin-wide : goal.returns-then-begin-wide
returns-then-begin-wide g c =
    bound_fits (spacings g.K.Kind.WIDEST) c.args.lim (count c.args.bitmap) c.args.start g.K.Kind.WIDEST c.requires (omega (arith, c.if-begin-wide.true, c.wide-begin.ensures, c.wide-end.ensures, c.wide.ensures))
