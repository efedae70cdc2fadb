-- Blocks of a pool by tier (document 01, "Slots and tiers", and the lent memory's free lists). Assumes nothing.
-- A kind of pool is its list of spacings; every law is stated for such a list, so that it holds of both kinds.
use Rattle.std.specs.Prelude.{cond, List, [], ◌∷◌, ℕ, zero, suc, ◌+◌, ◌/◌, ◌≤◌, ◌<◌, length, get_or, leb}

-- key bits that a node takes
abbrev pub stride : ℕ
stride = 5

-- the largest pool that is taken
abbrev pub pool_max : ℕ
pool_max = 65_536

-- the index that means "no block", u32::MAX
abbrev pub empty : ℕ
empty = 4_294_967_295

-- the words of a node, and of a cell
abbrev pub node_words : ℕ
node_words = 4

abbrev pub cell_words : ℕ
cell_words = 1

-- the cells of a block, tier by tier: the kinds differ in their last spacing alone
abbrev pub spacings : ℕ → List ℕ
spacings top = 1 ∷ 2 ∷ 4 ∷ 8 ∷ 16 ∷ 24 ∷ top ∷ []

-- the last spacing of the data pool, and of the child pool
abbrev pub data_top : ℕ
data_top = 31

abbrev pub child_top : ℕ
child_top = 32

abbrev pub data_spacings : List ℕ
data_spacings = spacings data_top

abbrev pub child_spacings : List ℕ
child_spacings = spacings child_top

-- the cells of a block of tier t
unfoldable pub spacing_of : List ℕ → ℕ → ℕ
spacing_of kind t = get_or kind t 1

-- the smallest tier whose spacing holds the count n, the last tier where none does
unfoldable pub tier_of : List ℕ → ℕ → ℕ
tier_of [] n = 0
tier_of (s ∷ []) n = 0
tier_of (s ∷ (u ∷ kind)) n = cond (leb n s) 0 (suc (tier_of (u ∷ kind) n))

-- what "smallest" means: t is a tier, holds n, and no lower tier does
pub record Smallest (kind : List ℕ) (n t : ℕ) : Type 0 where
  pub there : t < length kind
  pub holds : n ≤ spacing_of kind t
  pub least : (u : ℕ) → u < t → spacing_of kind u < n

-- a tier's section of the free list has floor (size / spacing) entries
unfoldable pub section_length : List ℕ → ℕ → ℕ → ℕ
section_length kind size t = size / spacing_of kind t

-- the sections are laid end to end
unfoldable pub section_start : List ℕ → ℕ → ℕ → ℕ
section_start kind size zero = 0
section_start kind size (suc t) = section_start kind size t + section_length kind size t

-- the entries of the whole free list
abbrev pub free_list_length : List ℕ → ℕ → ℕ
free_list_length kind size = section_start kind size (length kind)
