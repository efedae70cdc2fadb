-- What the masks say: the bits of the prefixes in a node that cover a query, or that it covers. Assumes nothing.
use mathlib.Core.Path.{◌≡◌, refl, sym, ap, ap₂, ◌∙◌}
use mathlib.Core.Logic.{◌↔◌, ◌⊎◌, inl, inr}
use mathlib.Core.Bool.{Bool, true, false, ◌&&◌, and-eq-true_iff}
use Prim.Native.Nat.{ℕ, ◌+◌, ◌-◌, ◌/◌, ◌%◌, ◌^◌, ◌≤◌, ◌<◌}
use native.Mathlib.Nat.{le_trans}
use native.Mathlib.Omega.{arith}
use borrow.Author.Tests.{ltb-true, lt-ltb, le-ltb, lt-leb}
use lib.Dec.{ltb, eqb}
use lib.Pow.{shr-shr}
use Rattle.bits.specs.Bits.{has, word}
use Rattle.bits.proofs.Words.{word_ext}
use Rattle.prefix.specs.Prefix.{width, first, Covers}
use Rattle.tiers.specs.Tiers.{stride}
use Rattle.places.specs.Places.{window, level_of, path_of, length_at, key_at, child_key, path_in, begins}
use Rattle.places.proofs.Windows.{window_front}
use Rattle.places.proofs.Levels.{level_lt}
use Rattle.places.proofs.Covering.{begins_true, path_front, data_covers, data_covered, child_covered}
use Rattle.patterns.specs.Patterns.{lead, is_ancestor, is_descendant, is_child_below}
use Rattle.node.specs.Masks.{InTree, covers_query, data_below, child_below, data_lpm, data_cover, child_cover}
use Rattle.node.proofs.HasBits.{same_test, has_word, word_none}

-- a mask picks by a rule below 31: the rule may change where it says the same there
below_31 : (i : ℕ) (a b : Bool) → (i < 31 → a ≡ b) → ltb i 31 && a ≡ ltb i 31 && b
below_31 i a b f = go (ltb i 31) (λ e. f (ltb-true i 31 e))
  where
    go : (t : Bool) → (t ≡ true → a ≡ b) → t && a ≡ t && b
    go true g = g refl
    go false g = refl

-- ---- nothing where the query's length isn't in the node

-- no data bit is covered
pub data_past : (d key len : ℕ) → d + stride ≤ len → data_cover d key len ≡ 0
unfolding data_below
data_past d key len h =
    word_none 32 (data_below d key len)
    (λ i l. below_31 i (begins (len - d) (path_in d key len) (level_of i) (path_of i)) false
    (λ k.
    let j = level_lt i k in
    let m : level_of i < len - d = omega arith in
    ap (λ (b : Bool). b && eqb (path_of i / 2 ^ (level_of i - (len - d))) (path_in d key len)) (lt-leb (len - d) (level_of i) m))
    ∙ and_false (ltb i 31))
  where
    and_false : (b : Bool) → b && false ≡ false
    and_false true = refl
    and_false false = refl

-- and no child
pub child_past : (d key len : ℕ) → d + stride ≤ len → child_cover d key len ≡ 0
unfolding child_below
child_past d key len h =
    let k : stride ≤ len - d = omega arith in
    word_none 32 (child_below d key len)
    (λ i l. ap (λ (b : Bool). b && begins (len - d) (path_in d key len) stride i) (le-ltb (len - d) stride k))

-- ---- the masks are the patterns of the key's place in a row

-- the path of a row's place, cut to j bits, is the key's
lead_front : (d key level j : ℕ) → j ≤ level → level ≤ 4 → d + j ≤ width → lead level (window key d 4) / 2 ^ (level - j) ≡ first (d + j) key % 2 ^ j
unfolding lead
lead_front d key level j h l w =
    let e : (4 - level) + (level - j) ≡ 4 - j = omega arith in
    shr-shr (window key d 4) (4 - level) (level - j) ∙ ap (λ (y : ℕ). window key d 4 / 2 ^ y) e ∙ window_front key d 4 j (omega arith) (omega arith) w

-- a path of at most four bits begins the query's exactly where it begins that of the row, which is cut to four
begins_cut : (d key len level j x : ℕ) → InTree d len → level ≤ 4 → d + level ≤ len → (len ≡ d + level) ⊎ (level ≡ 4) → j ≤ 4
    → begins j x level (lead level (window key d 4)) ≡ begins j x (len - d) (path_in d key len)
begins_cut d key len level j x t l u s h = same_test (begins j x level (lead level (window key d 4))) (begins j x (len - d) (path_in d key len)) to back
  where
    front : j ≤ level → lead level (window key d 4) / 2 ^ (level - j) ≡ path_in d key len / 2 ^ ((len - d) - j)
    front k =
        let w = t.within in
        let e : (len - d) - j ≡ len - (d + j) = omega arith in
        let f : (d + j) - d ≡ j = omega arith in
        lead_front d key level j k l (omega arith)
        ∙ sym (ap (λ (y : ℕ). path_in d key len / 2 ^ y) e ∙ path_front d key len (d + j) (omega arith) (omega arith) w ∙ ap (λ (y : ℕ). first (d + j) key % 2 ^ y) f)

    long : j ≤ len - d → (len ≡ d + level) ⊎ (level ≡ 4) → j ≤ level
    long k (inl e) = omega arith
    long k (inr e) = omega arith

    to : begins j x level (lead level (window key d 4)) ≡ true → begins j x (len - d) (path_in d key len) ≡ true
    to e =
        let b = (begins_true j x level (lead level (window key d 4))).0 e in
        let k : j ≤ level = b.0 in
        (begins_true j x (len - d) (path_in d key len)).1 (omega arith, sym (front k) ∙ b.1)

    back : begins j x (len - d) (path_in d key len) ≡ true → begins j x level (lead level (window key d 4)) ≡ true
    back e =
        let b = (begins_true j x (len - d) (path_in d key len)).0 e in
        let k : j ≤ level = long b.0 s in
        (begins_true j x level (lead level (window key d 4))).1 (k, front k ∙ b.1)

-- the mask of the covering prefixes is the row's pattern at the query's level, cut to 4
pub lpm_row : (d key len level place r : ℕ) → InTree d len → place ≡ window key d 4 → r ≡ word 32 (is_ancestor level place)
    → level ≤ 4 → d + level ≤ len → (len ≡ d + level) ⊎ (level ≡ 4) → r ≡ data_lpm d key len
unfolding is_ancestor covers_query
lpm_row d key len level place r t w e l u s =
    e ∙ ap (λ (x : ℕ). word 32 (is_ancestor level x)) w
    ∙ word_ext 32 (is_ancestor level (window key d 4)) (covers_query d key len)
    (λ i h. below_31 i (begins (level_of i) (path_of i) level (lead level (window key d 4))) (begins (level_of i) (path_of i) (len - d) (path_in d key len))
    (λ k. let j = level_lt i k in begins_cut d key len level (level_of i) (path_of i) t l u s (omega arith)))

-- the path of the row at the query's level is the query's
lead_path : (d key len : ℕ) → InTree d len → len < d + stride → lead (len - d) (window key d 4) ≡ path_in d key len
unfolding lead path_in
lead_path d key len t h =
    let f = t.from in
    let w = t.within in
    let m : ℕ = len - d in
    let e : d + m ≡ len = omega arith in
    window_front key d 4 m (omega arith) (omega arith) (omega arith) ∙ ap (λ (y : ℕ). first y key % 2 ^ m) e

-- the mask of the data bits that the query covers is the row's pattern at the query's level
pub data_row : (d key len level place r : ℕ) → InTree d len → level ≡ len - d → place ≡ window key d 4 → r ≡ word 32 (is_descendant level place)
    → len < d + stride → r ≡ data_cover d key len
unfolding is_descendant data_below
data_row d key len level place r t v w e h =
    e ∙ ap₂ (λ (l x : ℕ). word 32 (is_descendant l x)) v w
    ∙ word_ext 32 (is_descendant (len - d) (window key d 4)) (data_below d key len)
    (λ i l. ap (λ (y : ℕ). ltb i 31 && begins (len - d) y (level_of i) (path_of i)) (lead_path d key len t h))

-- and so is the mask of the children
pub child_row : (d key len level place r : ℕ) → InTree d len → level ≡ len - d → place ≡ window key d 4 → r ≡ word 32 (is_child_below level place)
    → len < d + stride → r ≡ child_cover d key len
unfolding is_child_below child_below
child_row d key len level place r t v w e h =
    let f = t.from in
    let k : len - d < stride = omega arith in
    e ∙ ap₂ (λ (l x : ℕ). word 32 (is_child_below l x)) v w
    ∙ word_ext 32 (is_child_below (len - d) (window key d 4)) (child_below d key len)
    (λ i l. ap (λ (y : ℕ). begins (len - d) y 5 i) (lead_path d key len t h)
    ∙ sym (ap (λ (b : Bool). b && begins (len - d) (path_in d key len) stride i) (lt-ltb (len - d) stride k)))

-- ---- the masks by prefixes

-- the bits of a mask whose rule is asked below 31
picks_31 : (f : ℕ → Bool) (i : ℕ) → has (word 32 (λ k. ltb k 31 && f k)) i ≡ true ↔ ((i < 31) × (f i ≡ true))
picks_31 f i = (
  λ e.
      let h = (and-eq-true_iff (ltb i 31) (f i)).0 ((has_word 32 (λ k. ltb k 31 && f k) i).0 e).1 in
      (ltb-true i 31 h.0, h.1),
  λ h. (has_word 32 (λ k. ltb k 31 && f k) i).1 (omega (arith, h.0), (and-eq-true_iff (ltb i 31) (f i)).1 (lt-ltb i 31 h.0, h.1)),
)

-- a data bit is in the first mask exactly where its prefix covers the query
pub lpm_bits : (d key len i : ℕ) → InTree d len → has (data_lpm d key len) i ≡ true ↔ ((i < 31) × Covers (key_at d key i) (length_at d i) key len)
unfolding covers_query length_at
lpm_bits d key len i t = (
  λ e.
      let h = p.0 e in
      let b = (begins_true (level_of i) (path_of i) (len - d) (path_in d key len)).0 h.1 in
      (h.0, (data_covers d key len i t.from t.within (short b.0)).0 h.1),
  λ h. p.1 (h.0, (data_covers d key len i t.from t.within (le_trans h.1.shorter t.within)).1 h.1),
)
  where
    p : has (data_lpm d key len) i ≡ true ↔ ((i < 31) × (begins (level_of i) (path_of i) (len - d) (path_in d key len) ≡ true))
    p = picks_31 (λ k. begins (level_of k) (path_of k) (len - d) (path_in d key len)) i

    short : level_of i ≤ len - d → length_at d i ≤ width
    short h = let f = t.from in let w = t.within in omega arith

-- a data bit that stands for a prefix is in the second exactly where the query covers that prefix
pub data_cover_bits : (d key len i : ℕ) → InTree d len → length_at d i ≤ width
    → has (data_cover d key len) i ≡ true ↔ ((i < 31) × Covers key len (key_at d key i) (length_at d i))
unfolding data_below
data_cover_bits d key len i t w = (
  λ e. let h = p.0 e in (h.0, (data_covered d key len i t.from t.within w).0 h.1),
  λ h. p.1 (h.0, (data_covered d key len i t.from t.within w).1 h.1),
)
  where
    p : has (data_cover d key len) i ≡ true ↔ ((i < 31) × (begins (len - d) (path_in d key len) (level_of i) (path_of i) ≡ true))
    p = picks_31 (λ k. begins (len - d) (path_in d key len) (level_of k) (path_of k)) i

-- a child is in the third exactly where the query's length is in the node and the query covers the child
pub child_cover_bits : (d key len i : ℕ) → InTree d len → d + stride ≤ width
    → has (child_cover d key len) i ≡ true ↔ ((i < 32) × (len < d + stride) × Covers key len (child_key d key i) (d + stride))
unfolding child_below
child_cover_bits d key len i t w = (to, back)
  where
    b : Bool
    b = begins (len - d) (path_in d key len) stride i

    to : has (child_cover d key len) i ≡ true → (i < 32) × (len < d + stride) × Covers key len (child_key d key i) (d + stride)
    to e =
        let h = (has_word 32 (child_below d key len) i).0 e in
        let g = (and-eq-true_iff (ltb (len - d) stride) b).0 h.1 in
        let l = ltb-true (len - d) stride g.0 in
        (h.0, omega arith, (child_covered d key len i t.from t.within w).0 g.1)

    back : (i < 32) × (len < d + stride) × Covers key len (child_key d key i) (d + stride) → has (child_cover d key len) i ≡ true
    back h =
        let f = t.from in
        let l : len - d < stride = omega (arith, h.1) in
        (has_word 32 (child_below d key len) i).1
        (h.0, (and-eq-true_iff (ltb (len - d) stride) b).1 (lt-ltb (len - d) stride l, (child_covered d key len i f t.within w).1 h.2))
