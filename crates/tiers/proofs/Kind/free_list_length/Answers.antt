-- `tiers::Kind::free_list_length` meets its contract: where the last section begins, and its length. Assumes nothing.
use native.Mathlib.Omega.{arith}
use Rattle.tiers.specs.Tiers.{spacings}
use Rattle.tiers.proofs.Sections.{start_next}
use Rattle.tiers.proofs.Kind.free_list_length.Goals as goal

pub returns : goal.returns
returns g c =
    omega (arith, start_next (spacings g.Self.Kind.WIDEST) c.args.size 6, c.section_start_of.ensures.1 g.Self.Kind.WIDEST)
