-- Laws of spacings and of the tier of a count, over any list of spacings, so that each holds of both kinds. Assumes nothing.
-- A premise `T (rising 0 kind)` or `T (within b kind)` is a test that computes: `tt` gives it for a kind's list.
use Rattle.std.specs.Prelude.{Option, Some, None, MatchOption}
use mathlib.Core.Path.{◌≡◌, refl, sym, ap, ◌∙◌}
use mathlib.Core.Bool.{Bool, true, cond, ◌&&◌}
use mathlib.Core.List.{List, [], ◌∷◌}
use Prim.Native.Nat.{ℕ, zero, suc, ◌+◌, ◌-◌, ◌≤◌, ◌<◌, zero-le, suc-le-suc}
use native.Mathlib.Nat.{le_refl, le_trans, lt_of_le_of_lt, lt_trans, le_of_suc-le-suc, not-suc-le-zero, le_antisymm, lt_irrefl, lt-suc_self}
use native.Mathlib.Decide.{dec_lt}
use native.Mathlib.Omega.{arith}
use borrow.Author.Tests.{le-leb, lt-leb}
use lib.Dec.{T, leb, ltb, leb→le, ltb→lt, lit<, lit≤}
use lib.Ieee.Fits.{and_l, and_r}
use lib.ListN.{length, get_or, get_or-append}
use Rattle.tiers.specs.Tiers.{spacings, data_spacings, child_spacings, spacing_of, tier_of, Smallest}

-- each spacing is above the one before it, the first above a
abbrev pub rising : ℕ → List ℕ → Bool
rising a [] = true
rising a (s ∷ kind) = ltb a s && rising s kind

-- each spacing is at most b, and so is the 1 that stands for a tier past the end
abbrev pub within : ℕ → List ℕ → Bool
within b [] = leb 1 b
within b (s ∷ kind) = leb s b && within b kind

-- the kinds have the same spacings below the last tier
pub same_spacing : (a b t : ℕ) → t < 6 → spacing_of (spacings a) t ≡ spacing_of (spacings b) t
unfolding spacing_of
same_spacing a b t h =
    let common : List ℕ = 1 ∷ 2 ∷ 4 ∷ 8 ∷ 16 ∷ 24 ∷ [] in
    get_or-append common (a ∷ []) 1 t h ∙ sym (get_or-append common (b ∷ []) 1 t h)

-- the last tier's spacing is the kind's own
pub last_spacing : (top : ℕ) → spacing_of (spacings top) 6 ≡ top
unfolding spacing_of
last_spacing top = refl

-- a kind whose last spacing isn't 0 has none that is
pub kind_pos : (top t : ℕ) → 0 < top → 1 ≤ spacing_of (spacings top) t
unfolding spacing_of
kind_pos top zero h = lit≤ tt
kind_pos top (suc zero) h = lit≤ tt
kind_pos top (suc (suc zero)) h = lit≤ tt
kind_pos top (suc (suc (suc zero))) h = lit≤ tt
kind_pos top (suc (suc (suc (suc zero)))) h = lit≤ tt
kind_pos top (suc (suc (suc (suc (suc zero))))) h = lit≤ tt
kind_pos top (suc (suc (suc (suc (suc (suc zero)))))) h = h
kind_pos top (suc (suc (suc (suc (suc (suc (suc t))))))) h = lit≤ tt

-- a tier's spacing is the entry of the list, whatever stands for a tier past the end
pub spacing_entry : (kind : List ℕ) (t d : ℕ) → t < length kind → get_or kind t d ≡ spacing_of kind t
unfolding spacing_of
spacing_entry [] t d h = absurd (not-suc-le-zero h)
spacing_entry (s ∷ kind) zero d h = refl
spacing_entry (s ∷ kind) (suc t) d h = spacing_entry kind t d (le_of_suc-le-suc h)

-- so a table that is the list has it
pub table_entry : (table kind : List ℕ) (i t d : ℕ) → table ≡ kind → i ≡ t → i < length kind → get_or table i d ≡ spacing_of kind t
table_entry table kind i t d e f h = rw (e, ← f) (spacing_entry kind i d h)

-- the spacings of a rising list are above what it rises from
above : (a : ℕ) (kind : List ℕ) → T (rising a kind) → (t : ℕ) → t < length kind → a < get_or kind t 1
above a [] r t h = absurd (not-suc-le-zero h)
above a (s ∷ kind) r zero h = ltb→lt a s (and_l (ltb a s) (rising s kind) r)
above a (s ∷ kind) r (suc t) h =
    lt_trans (ltb→lt a s (and_l (ltb a s) (rising s kind) r)) (above s kind (and_r (ltb a s) (rising s kind) r) t (le_of_suc-le-suc h))

-- a spacing is at least 1
pub spacing_pos : (kind : List ℕ) → T (rising 0 kind) → (t : ℕ) → 1 ≤ spacing_of kind t
unfolding spacing_of
spacing_pos kind r t = go 0 kind r t
  where
    go : (a : ℕ) (ss : List ℕ) → T (rising a ss) → (t : ℕ) → 1 ≤ get_or ss t 1
    go a [] r t = le_refl 1
    go a (s ∷ ss) r zero = lt_of_le_of_lt zero-le (ltb→lt a s (and_l (ltb a s) (rising s ss) r))
    go a (s ∷ ss) r (suc t) = go s ss (and_r (ltb a s) (rising s ss) r) t

-- a spacing is at most the bound of its list
pub spacing_le : (b : ℕ) (kind : List ℕ) → T (within b kind) → (t : ℕ) → spacing_of kind t ≤ b
unfolding spacing_of
spacing_le b [] w t = leb→le 1 b w
spacing_le b (s ∷ kind) w zero = leb→le s b (and_l (leb s b) (within b kind) w)
spacing_le b (s ∷ kind) w (suc t) = spacing_le b kind (and_r (leb s b) (within b kind) w) t

-- a higher tier has a larger spacing
pub spacing_rises : (kind : List ℕ) → T (rising 0 kind) → (u t : ℕ) → u < t → t < length kind → spacing_of kind u < spacing_of kind t
unfolding spacing_of
spacing_rises kind r u t l h = go 0 kind r u t l h
  where
    go : (a : ℕ) (ss : List ℕ) → T (rising a ss) → (u t : ℕ) → u < t → t < length ss → get_or ss u 1 < get_or ss t 1
    go a ss r u zero l h = absurd (not-suc-le-zero l)
    go a [] r u (suc t) l h = absurd (not-suc-le-zero h)
    go a (s ∷ ss) r zero (suc t) l h = above s ss (and_r (ltb a s) (rising s ss) r) t (le_of_suc-le-suc h)
    go a (s ∷ ss) r (suc u) (suc t) l h = go s ss (and_r (ltb a s) (rising s ss) r) u t (le_of_suc-le-suc l) (le_of_suc-le-suc h)

-- a count has one tier in every kind
pub same_tier : (a b n : ℕ) → tier_of (spacings a) n ≡ tier_of (spacings b) n
unfolding tier_of
same_tier a b n = refl

-- a count that the first spacing holds has tier 0
pub tier_first : (s : ℕ) (kind : List ℕ) (n : ℕ) → n ≤ s → tier_of (s ∷ kind) n ≡ 0
unfolding tier_of
tier_first s [] n h = refl
tier_first s (u ∷ kind) n h = ap (λ (b : Bool). cond b 0 (suc (tier_of (u ∷ kind) n))) (le-leb n s h)

-- any other has one more than in the rest of the list
pub tier_later : (s u : ℕ) (kind : List ℕ) (n : ℕ) → s < n → tier_of (s ∷ (u ∷ kind)) n ≡ suc (tier_of (u ∷ kind) n)
unfolding tier_of
tier_later s u kind n h = ap (λ (b : Bool). cond b 0 (suc (tier_of (u ∷ kind) n))) (lt-leb n s h)

-- the count 0 has tier 0
pub tier_zero : (kind : List ℕ) → tier_of kind 0 ≡ 0
unfolding tier_of
tier_zero [] = refl
tier_zero (s ∷ kind) = tier_first s kind 0 zero-le

-- a tier is at most the last
pub tier_last : (kind : List ℕ) (n : ℕ) → tier_of kind n ≤ length kind - 1
unfolding tier_of
tier_last [] n = zero-le
tier_last (s ∷ []) n = zero-le
tier_last (s ∷ (u ∷ kind)) n = go (dec_lt s n) (tier_last (u ∷ kind) n)
  where
    go : Dec (s < n) → tier_of (u ∷ kind) n ≤ length (u ∷ kind) - 1 → tier_of (s ∷ (u ∷ kind)) n ≤ length (s ∷ (u ∷ kind)) - 1
    go (yes g) k = rw (tier_later s u kind n g) (omega arith)
    go (no g) k = rw (tier_first s (u ∷ kind) n (omega arith)) zero-le

-- so it is one of the list's
pub tier_lt : (kind : List ℕ) (n : ℕ) → 0 < length kind → tier_of kind n < length kind
tier_lt kind n h = omega (arith, tier_last kind n)

-- a count that a tier's spacing holds has no higher tier
pub tier_le : (kind : List ℕ) (t n : ℕ) → n ≤ spacing_of kind t → tier_of kind n ≤ t
unfolding spacing_of tier_of
tier_le [] t n h = zero-le
tier_le (s ∷ []) t n h = zero-le
tier_le (s ∷ (u ∷ kind)) zero n h = rw (tier_first s (u ∷ kind) n h) zero-le
tier_le (s ∷ (u ∷ kind)) (suc t) n h = go (dec_lt s n) (tier_le (u ∷ kind) t n h)
  where
    go : Dec (s < n) → tier_of (u ∷ kind) n ≤ t → tier_of (s ∷ (u ∷ kind)) n ≤ suc t
    go (yes g) k = rw (tier_later s u kind n g) (suc-le-suc k)
    go (no g) k = rw (tier_first s (u ∷ kind) n (omega arith)) zero-le

-- along a list that rises from a, a count above a spacing climbs past it
climbs : (a : ℕ) (kind : List ℕ) → T (rising a kind) → (t n : ℕ) → suc t < length kind → spacing_of kind t < n → t < tier_of kind n
unfolding spacing_of tier_of
climbs a [] r t n h k = absurd (not-suc-le-zero h)
climbs a (s ∷ []) r t n h k = absurd (not-suc-le-zero (le_of_suc-le-suc h))
climbs a (s ∷ (u ∷ kind)) r zero n h k = rw (tier_later s u kind n k) (suc-le-suc zero-le)
climbs a (s ∷ (u ∷ kind)) r (suc t) n h k =
    let q = and_r (ltb a s) (rising s (u ∷ kind)) r in
    let l : s < n = lt_trans (above s (u ∷ kind) q t (omega arith)) k in
    rw (tier_later s u kind n l) (suc-le-suc (climbs s (u ∷ kind) q t n (le_of_suc-le-suc h) k))

-- a count above a tier's spacing has a higher tier, where there is one
pub tier_gt : (kind : List ℕ) → T (rising 0 kind) → (t n : ℕ) → suc t < length kind → spacing_of kind t < n → t < tier_of kind n
tier_gt kind r t n h k = climbs 0 kind r t n h k

-- a tier that isn't the last holds its count
pub tier_holds : (kind : List ℕ) → T (rising 0 kind) → (n : ℕ) → suc (tier_of kind n) < length kind → n ≤ spacing_of kind (tier_of kind n)
tier_holds kind r n h = go (dec_lt (spacing_of kind (tier_of kind n)) n)
  where
    go : Dec (spacing_of kind (tier_of kind n) < n) → n ≤ spacing_of kind (tier_of kind n)
    go (yes g) = absurd (lt_irrefl (tier_of kind n) (tier_gt kind r (tier_of kind n) n h g))
    go (no g) = omega arith

-- a larger count has no lower tier
pub tier_mono : (kind : List ℕ) → T (rising 0 kind) → (n m : ℕ) → n ≤ m → tier_of kind n ≤ tier_of kind m
tier_mono kind r n m h = go (dec_lt (suc (tier_of kind m)) (length kind))
  where
    go : Dec (suc (tier_of kind m) < length kind) → tier_of kind n ≤ tier_of kind m
    go (yes g) = tier_le kind (tier_of kind m) n (le_trans h (tier_holds kind r m g))
    go (no g) = omega (arith, tier_last kind n)

-- one more in a block is at most one tier more
pub tier_next : (kind : List ℕ) → T (rising 0 kind) → (n : ℕ) → tier_of kind (n + 1) ≤ tier_of kind n + 1
tier_next kind r n = go (dec_lt (suc (tier_of kind n)) (length kind))
  where
    go : Dec (suc (tier_of kind n) < length kind) → tier_of kind (n + 1) ≤ tier_of kind n + 1
    go (yes g) =
        let l = spacing_rises kind r (tier_of kind n) (suc (tier_of kind n)) (lt-suc_self (tier_of kind n)) g in
        omega (arith, tier_le kind (suc (tier_of kind n)) (n + 1) (omega (arith, tier_holds kind r n g)))
    go (no g) = omega (arith, tier_last kind (n + 1))

-- where some tier holds the count, the count's tier is the smallest that does
pub tier_smallest : (kind : List ℕ) → T (rising 0 kind) → (n t : ℕ) → t < length kind → n ≤ spacing_of kind t → Smallest kind n (tier_of kind n)
tier_smallest kind r n t h k = record { there = tier_lt kind n (omega arith); holds = holds (dec_lt (tier_of kind n) t); least = λ u l. below u l (dec_lt (spacing_of kind u) n) }
  where
    holds : Dec (tier_of kind n < t) → n ≤ spacing_of kind (tier_of kind n)
    holds (yes g) = tier_holds kind r n (omega arith)
    holds (no g) = let e : tier_of kind n ≡ t = omega (arith, tier_le kind t n k) in rw e k

    below : (u : ℕ) → u < tier_of kind n → Dec (spacing_of kind u < n) → spacing_of kind u < n
    below u l (yes g) = g
    below u l (no g) = omega (arith, tier_le kind u n (omega arith))

-- of counts that a node can have, each has the smallest tier: up to 31 cells
pub data_smallest : (n : ℕ) → n ≤ 31 → Smallest data_spacings n (tier_of data_spacings n)
unfolding spacing_of
data_smallest n h = tier_smallest data_spacings tt n 6 (lit< tt) h

-- and up to 32 children
pub child_smallest : (n : ℕ) → n ≤ 32 → Smallest child_spacings n (tier_of child_spacings n)
unfolding spacing_of
child_smallest n h = tier_smallest child_spacings tt n 6 (lit< tt) h

-- the smallest tier is one
pub smallest_unique : (kind : List ℕ) (n a b : ℕ) → Smallest kind n a → Smallest kind n b → a ≡ b
smallest_unique kind n a b v w = le_antisymm (go a b v w (dec_lt b a)) (go b a w v (dec_lt a b))
  where
    go : (c d : ℕ) → Smallest kind n c → Smallest kind n d → Dec (d < c) → c ≤ d
    go c d x y (yes h) = let z = x.least d h in let o = y.holds in omega arith
    go c d x y (no h) = omega arith

-- so the smallest tier is the count's
pub smallest_tier : (kind : List ℕ) → T (rising 0 kind) → (n t : ℕ) → Smallest kind n t → tier_of kind n ≡ t
smallest_tier kind r n t w = smallest_unique kind n (tier_of kind n) t (tier_smallest kind r n t w.there w.holds) w

-- the first tier that holds a count is the count's in every kind, whatever its last spacing is
pub first_holds : (n t : ℕ) → t < 6 → n ≤ spacing_of child_spacings t → ((u : ℕ) → u < t → spacing_of child_spacings u < n) → (top : ℕ) → t ≡ tier_of (spacings top) n
first_holds n t h k l top =
    sym (smallest_tier child_spacings tt n t (record { there = omega arith; holds = k; least = l })) ∙ same_tier 32 top n

-- and where none below the last does, the last is
pub none_holds : (n : ℕ) → ((u : ℕ) → u < 6 → spacing_of child_spacings u < n) → (top : ℕ) → 6 ≡ tier_of (spacings top) n
none_holds n l top =
    let more : 5 < tier_of child_spacings n = tier_gt child_spacings tt 5 n (lit< tt) (l 5 (lit< tt)) in
    let e : 6 ≡ tier_of child_spacings n = omega (arith, tier_lt child_spacings n (lit< tt)) in
    e ∙ same_tier 32 top n

-- a full block has the tier of its spacing
pub tier_full : (kind : List ℕ) → T (rising 0 kind) → (t : ℕ) → t < length kind → tier_of kind (spacing_of kind t) ≡ t
tier_full kind r t h =
    smallest_tier kind r (spacing_of kind t) t
    (record { there = h; holds = le_refl (spacing_of kind t); least = λ u l. spacing_rises kind r u t l h })

-- any two outcomes that `Tier::new` may give are equal
pub new_same : (n : ℕ) (r s : Option ℕ) → MatchOption r (7 ≤ n) (λ t. (t ≡ n) × (n < 7)) → MatchOption s (7 ≤ n) (λ t. (t ≡ n) × (n < 7)) → r ≡ s
new_same n (Some a) (Some b) p q = ap Some (p.0 ∙ sym q.0)
new_same n (Some a) None p q = let h = p.1 in absurd (omega arith)
new_same n None (Some b) p q = let h = q.1 in absurd (omega arith)
new_same n None None p q = refl
