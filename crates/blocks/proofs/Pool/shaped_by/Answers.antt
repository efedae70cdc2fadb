-- `blocks::Pool::shaped_by` meets its contract: where the last section begins, and its length. Assumes nothing.
use mathlib.Core.Path.{◌≡◌, sym}
use Prim.Native.Nat.{◌+◌}
use Rattle.tiers.specs.Tiers.{spacings, spacing_of, section_length, free_list_length}
use Rattle.tiers.proofs.Sections.{start_next}
use Rattle.blocks.specs.Shape.{shaped_of}
use Rattle.blocks.proofs.Pool.shaped_by.Goals as goal

pub returns-then-is_pool_size : goal.returns-then-is_pool_size
unfolding shaped_of section_length spacing_of
returns-then-is_pool_size c =
    let top = c.args.top in
    let size = c.args.self.size in
    let whole : free_list_length (spacings top) size ≡ c.section_start_of.result + c.wide.result =
    rw (c.section_start_of.ensures.1 top, c.wide.ensures) (start_next (spacings top) size 6) in
    simp (whole, sym c.is_pool_size.ensures, c.if-is_pool_size.true)
