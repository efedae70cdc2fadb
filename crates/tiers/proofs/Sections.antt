-- Laws of the free list's sections: laid end to end, apart from each other, and long enough for every block of the pool. Assumes nothing.
use mathlib.Core.Path.{◌≡◌, refl, ap, ap₂, ◌∙◌}
use mathlib.Core.Logic.{◌⊎◌, inl, inr}
use mathlib.Core.List.{List}
use Prim.Native.Nat.{ℕ, zero, suc, ◌+◌, ◌*◌, ◌/◌, ◌^◌, ◌≤◌, ◌<◌}
use native.Mathlib.Nat.{le_trans, le_of_suc-le-suc, not-suc-le-zero, mul-le-mul_left, mul-le-mul_right, div-le_self, div-mul-le_self, le-div_iff_mul-le, le-suc_iff, suc-mul}
use native.Mathlib.Decide.{dec_lt}
use native.Mathlib.Omega.{arith}
use lib.Dec.{T}
use lib.ListN.{length}
use Rattle.tiers.specs.Tiers.{spacings, child_spacings, pool_max, spacing_of, section_length, section_start, free_list_length}
use Rattle.tiers.proofs.Tiers.{rising, spacing_pos, same_spacing}

-- the kinds have the same section lengths below the last tier
pub same_length : (a b size t : ℕ) → t < 6 → section_length (spacings a) size t ≡ section_length (spacings b) size t
unfolding section_length
same_length a b size t h = ap (λ (s : ℕ). size / s) (same_spacing a b t h)

-- and the same section starts, the last one's too
pub same_start : (a b size t : ℕ) → t < 7 → section_start (spacings a) size t ≡ section_start (spacings b) size t
unfolding section_start
same_start a b size zero h = refl
same_start a b size (suc t) h = ap₂ ◌+◌ (same_start a b size t (omega arith)) (same_length a b size t (le_of_suc-le-suc h))

-- a section is no longer than the pool
pub section_le : (kind : List ℕ) (size t : ℕ) → section_length kind size t ≤ size
unfolding section_length
section_le kind size t = div-le_self size (spacing_of kind t)

-- the blocks of a whole section fit the pool
pub section_fits : (kind : List ℕ) (size t : ℕ) → section_length kind size t * spacing_of kind t ≤ size
unfolding section_length
section_fits kind size t = div-mul-le_self size (spacing_of kind t)

-- as many blocks of a tier as the pool has room for fit the tier's section
pub section_holds : (kind : List ℕ) → T (rising 0 kind) → (size t k : ℕ) → k * spacing_of kind t ≤ size → k ≤ section_length kind size t
unfolding section_length
section_holds kind r size t k h = (le-div_iff_mul-le (spacing_pos kind r t)).1 h

-- the first section begins at 0
pub start_zero : (kind : List ℕ) (size : ℕ) → section_start kind size 0 ≡ 0
unfolding section_start
start_zero kind size = refl

-- a section begins where the one before it ends
pub start_next : (kind : List ℕ) (size t : ℕ) → section_start kind size (suc t) ≡ section_start kind size t + section_length kind size t
unfolding section_start
start_next kind size t = refl

-- a section ends before any later one begins
pub section_end : (kind : List ℕ) (size t u : ℕ) → t < u → section_start kind size t + section_length kind size t ≤ section_start kind size u
section_end kind size t zero h = absurd (not-suc-le-zero h)
section_end kind size t (suc u) h = go (le-suc_iff.0 h) (section_end kind size t u)
  where
    go :
        (t < u) ⊎ (suc t ≡ suc u)
        → (t < u → section_start kind size t + section_length kind size t ≤ section_start kind size u)
        → section_start kind size t + section_length kind size t ≤ section_start kind size (suc u)
    go (inl l) k = let g = k l in omega (arith, start_next kind size u)
    go (inr e) k = omega (arith, ap (section_start kind size) e, start_next kind size t)

-- starts rise with the tier
pub start_mono : (kind : List ℕ) (size t u : ℕ) → t ≤ u → section_start kind size t ≤ section_start kind size u
start_mono kind size t u h = go (dec_lt t u)
  where
    go : Dec (t < u) → section_start kind size t ≤ section_start kind size u
    go (yes l) = omega (arith, section_end kind size t u l)
    go (no l) = let e : t ≡ u = omega arith in omega (arith, ap (section_start kind size) e)

-- an entry of a section is one of the free list
pub entry_lt : (kind : List ℕ) (size t i : ℕ) → t < length kind → i < section_length kind size t → section_start kind size t + i < free_list_length kind size
entry_lt kind size t i h k = omega (arith, section_end kind size t (length kind) h)

-- entries of the free list that stand at one place are one entry of one tier
pub entry_one : (kind : List ℕ) (size t i u j : ℕ) → i < section_length kind size t → j < section_length kind size u → section_start kind size t + i ≡ section_start kind size u + j → (t ≡ u) × (i ≡ j)
entry_one kind size t i u j h k e = go (dec_lt t u) (dec_lt u t)
  where
    go : Dec (t < u) → Dec (u < t) → (t ≡ u) × (i ≡ j)
    go (yes l) d = absurd (omega (arith, section_end kind size t u l))
    go (no l) (yes m) = absurd (omega (arith, section_end kind size u t m))
    go (no l) (no m) = let q : t ≡ u = omega arith in (q, omega (arith, ap (section_start kind size) q))

-- t sections are no longer than t pools
pub start_le : (kind : List ℕ) (size t : ℕ) → section_start kind size t ≤ t * size
start_le kind size zero = omega (arith, start_zero kind size)
start_le kind size (suc t) = omega (arith, start_next kind size t, section_le kind size t, start_le kind size t, suc-mul t size)

-- seven sections have fewer than 2 ^ 35 entries, whatever 32-bit size the pool has
pub start_lt : (kind : List ℕ) (size t : ℕ) → t ≤ 7 → size < 2 ^ 32 → section_start kind size t < 2 ^ 35
start_lt kind size t h k =
    let m : t * size ≤ 7 * size = mul-le-mul_right size h in
    omega (arith, start_le kind size t)

-- a number that is where a section begins in one kind is so in every kind
pub every_start :
    (r size t u : ℕ) → t ≡ u → size < 2 ^ 32 → t < 7 → r ≡ section_start child_spacings size u
    → (r < 2 ^ 35) × ((top : ℕ) → r ≡ section_start (spacings top) size t)
every_start r size t u q k h e =
    let f : r ≡ section_start child_spacings size t = rw q e in
    (omega (arith, start_lt child_spacings size t (omega arith) k), λ top. f ∙ same_start 32 top size t h)

-- seven sections, none with more blocks than fit the pool
seven : (s a b c d e f g : ℕ) → a * 1 ≤ s → b * 2 ≤ s → c * 4 ≤ s → d * 8 ≤ s → e * 16 ≤ s → f * 24 ≤ s → g * 31 ≤ s → 64 * (0 + a + b + c + d + e + f + g) ≤ 129 * s
seven s a b c d e f g ha hb hc hd he hf hg = omega arith

-- 64 free lists are no longer than 129 pools
list_sum : (last size : ℕ) → 31 ≤ last → 64 * free_list_length (spacings last) size ≤ 129 * size
unfolding section_start section_length spacing_of
list_sum last size h =
    let fits = div-mul-le_self size in
    seven size (size / 1) (size / 2) (size / 4) (size / 8) (size / 16) (size / 24) (size / last) (fits 1) (fits 2) (fits 4) (fits 8) (fits 16) (fits 24)
    (le_trans (mul-le-mul_left (size / last) h) (fits last))

-- a free list of either kind is at most a 64th longer than two pools
pub list_le : (last size : ℕ) → 31 ≤ last → free_list_length (spacings last) size ≤ 2 * size + size / 64
list_le last size h = omega (arith, list_sum last size h)

-- and so no longer than for the largest pool
pub list_max : (last size : ℕ) → 31 ≤ last → size ≤ pool_max → free_list_length (spacings last) size ≤ 2 * pool_max + pool_max / 64
list_max last size h k = omega (arith, list_le last size h)
