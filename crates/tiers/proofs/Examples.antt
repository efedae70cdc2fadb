-- Readings on each side of a mark: sizes of a pool, tiers of a count, the free lists of document 01. Assumes nothing.
use mathlib.Core.Path.{◌≡◌, refl}
use mathlib.Core.Bool.{true, false, ◌&&◌}
use lib.Dec.{leb}
use Rattle.tiers.specs.Tiers.{data_spacings, child_spacings, pool_max, spacing_of, tier_of, section_length, section_start, free_list_length}

-- a pool has 1 to 65,536 nodes or cells
pub size_0 : leb 1 0 && leb 0 pool_max ≡ false
size_0 = refl

pub size_1 : leb 1 1 && leb 1 pool_max ≡ true
size_1 = refl

pub size_65536 : leb 1 65_536 && leb 65_536 pool_max ≡ true
size_65536 = refl

pub size_65537 : leb 1 65_537 && leb 65_537 pool_max ≡ false
size_65537 = refl

-- counts 24 and 25 have tiers 5 and 6, count 2 has tier 1, in both kinds
pub data_tiers : (tier_of data_spacings 24 ≡ 5) × (tier_of data_spacings 25 ≡ 6) × (tier_of data_spacings 2 ≡ 1)
unfolding tier_of
data_tiers = (refl, refl, refl)

pub child_tiers : (tier_of child_spacings 24 ≡ 5) × (tier_of child_spacings 25 ≡ 6) × (tier_of child_spacings 2 ≡ 1)
unfolding tier_of
child_tiers = (refl, refl, refl)

-- the free lists of 64 cells and of 64 nodes have 128 entries
pub data_list : free_list_length data_spacings 64 ≡ 128
unfolding section_start section_length spacing_of
data_list = refl

pub child_list : free_list_length child_spacings 64 ≡ 128
unfolding section_start section_length spacing_of
child_list = refl
