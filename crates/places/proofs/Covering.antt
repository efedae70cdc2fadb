-- Covering of prefixes in a node is one path beginning another, for data bits, for children and for the lengths between. Assumes nothing.
use mathlib.Core.Path.{◌≡◌, sym, ap, ◌∙◌, subst}
use mathlib.Core.Logic.{◌↔◌}
use mathlib.Core.Bool.{true, and-eq-true_iff}
use Prim.Native.Nat.{ℕ, ◌+◌, ◌-◌, ◌*◌, ◌/◌, ◌%◌, ◌^◌, ◌≤◌}
use native.Mathlib.Nat.{add_left_cancel}
use native.Mathlib.Omega.{arith}
use borrow.Author.Tests.{leb-true, eqb-true, le-leb, eq-eqb}
use lib.Dec.{leb, eqb}
use lib.Pow.{field}
use Rattle.prefix.specs.Prefix.{width, first, Covers}
use Rattle.tiers.specs.Tiers.{stride}
use Rattle.places.specs.Places.{level_of, path_of, length_at, key_at, child_key, path_in, begins}
use Rattle.places.proofs.Extending.{extended, first_front, first_split, extended_first, extended_front}
use Rattle.places.proofs.Children.{child_extended}

-- one path begins another, as facts
pub begins_true : (l p m q : ℕ) → begins l p m q ≡ true ↔ ((l ≤ m) × (q / 2 ^ (m - l) ≡ p))
begins_true l p m q = (
  λ e. let h = (and-eq-true_iff (leb l m) (eqb (q / 2 ^ (m - l)) p)).0 e in (leb-true l m h.0, eqb-true (q / 2 ^ (m - l)) p h.1),
  λ h. (and-eq-true_iff (leb l m) (eqb (q / 2 ^ (m - l)) p)).1 (le-leb l m h.0, eq-eqb (q / 2 ^ (m - l)) p h.1),
)

-- the front of a query's path: its key bits from the depth up to a shorter length
pub path_front : (d key len l : ℕ) → d ≤ l → l ≤ len → len ≤ width → path_in d key len / 2 ^ (len - l) ≡ first l key % 2 ^ (l - d)
unfolding path_in
path_front d key len l h k i =
    let j : ℕ = l - d in
    let m : ℕ = len - l in
    let e : len - d ≡ j + m = omega arith in
    let f : l + m ≡ len = omega arith in
    ap (λ (y : ℕ). first len key % 2 ^ y / 2 ^ m) e
    ∙ field (first len key) j m
    ∙ ap (λ (y : ℕ). y % 2 ^ j) (ap (λ (y : ℕ). first y key / 2 ^ m) (sym f) ∙ first_front key l m (omega arith))

-- a query's first bits are the node's and its path
path_split : (d key len : ℕ) → d ≤ len → len ≤ width → first len key ≡ first d key * 2 ^ (len - d) + path_in d key len
unfolding path_in
path_split d key len h i =
    let m : ℕ = len - d in
    let e : d + m ≡ len = omega arith in
    subst (λ (y : ℕ). first y key ≡ first d key * 2 ^ m + first y key % 2 ^ m) e (first_split key d m (omega arith))

-- ---- a path of j bits in the node, and a query

module _ (d key len j x : ℕ) (from : d ≤ len) (within : len ≤ width) (fits : d + j ≤ width) where
  -- the front of the query's path, as long as the path
  front : d + j ≤ len → path_in d key len / 2 ^ ((len - d) - j) ≡ first (d + j) key % 2 ^ j
  front h =
      let e : (len - d) - j ≡ len - (d + j) = omega arith in
      let f : (d + j) - d ≡ j = omega arith in
      ap (λ (y : ℕ). path_in d key len / 2 ^ y) e ∙ path_front d key len (d + j) (omega arith) h within ∙ ap (λ (y : ℕ). first (d + j) key % 2 ^ y) f

  -- the path's prefix covers the query exactly where the path begins the query's
  pub path_covers : begins j x (len - d) (path_in d key len) ≡ true ↔ Covers (extended d key j x) (d + j) key len
  path_covers = (to, back)
    where
      to : begins j x (len - d) (path_in d key len) ≡ true → Covers (extended d key j x) (d + j) key len
      to t =
          let b = (begins_true j x (len - d) (path_in d key len)).0 t in
          let h : d + j ≤ len = omega (arith, b.0) in
          record {
            shorter = h;
            agree = extended_first key d j x fits ∙ ap (λ (y : ℕ). first d key * 2 ^ j + y) (sym b.1 ∙ front h) ∙ sym (first_split key d j fits);
          }

      back : Covers (extended d key j x) (d + j) key len → begins j x (len - d) (path_in d key len) ≡ true
      back c =
          let h : d + j ≤ len = c.shorter in
          let e : x ≡ first (d + j) key % 2 ^ j =
          add_left_cancel (first d key * 2 ^ j) (sym (extended_first key d j x fits) ∙ c.agree ∙ first_split key d j fits) in
          (begins_true j x (len - d) (path_in d key len)).1 (omega arith, front h ∙ sym e)

  -- the query's bits in the extended key, where the query isn't longer
  shorter : len ≤ d + j → first len (extended d key j x) ≡ first d key * 2 ^ (len - d) + x / 2 ^ (j - (len - d))
  shorter h =
      let m : ℕ = len - d in
      let e : d + m ≡ len = omega arith in
      ap (λ (y : ℕ). first y (extended d key j x)) (sym e) ∙ extended_front key d j x m fits (omega arith)

  -- the query covers the path's prefix exactly where the query's path begins the path
  pub path_covered : begins (len - d) (path_in d key len) j x ≡ true ↔ Covers key len (extended d key j x) (d + j)
  path_covered = (to, back)
    where
      to : begins (len - d) (path_in d key len) j x ≡ true → Covers key len (extended d key j x) (d + j)
      to t =
          let b = (begins_true (len - d) (path_in d key len) j x).0 t in
          let h : len ≤ d + j = omega (arith, b.0) in
          record {
            shorter = h;
            agree = path_split d key len from within ∙ ap (λ (y : ℕ). first d key * 2 ^ (len - d) + y) (sym b.1) ∙ sym (shorter h);
          }

      back : Covers key len (extended d key j x) (d + j) → begins (len - d) (path_in d key len) j x ≡ true
      back c =
          let h : len ≤ d + j = c.shorter in
          let e : x / 2 ^ (j - (len - d)) ≡ path_in d key len =
          add_left_cancel (first d key * 2 ^ (len - d)) (sym (shorter h) ∙ sym c.agree ∙ path_split d key len from within) in
          (begins_true (len - d) (path_in d key len) j x).1 (omega arith, e)

-- ---- data bits and children

-- the prefix of a data bit covers the query
pub data_covers : (d key len b : ℕ) → d ≤ len → len ≤ width → length_at d b ≤ width
    → begins (level_of b) (path_of b) (len - d) (path_in d key len) ≡ true ↔ Covers (key_at d key b) (length_at d b) key len
unfolding length_at key_at
data_covers d key len b from within fits = path_covers d key len (level_of b) (path_of b) from within fits

-- the query covers the prefix of a data bit
pub data_covered : (d key len b : ℕ) → d ≤ len → len ≤ width → length_at d b ≤ width
    → begins (len - d) (path_in d key len) (level_of b) (path_of b) ≡ true ↔ Covers key len (key_at d key b) (length_at d b)
unfolding length_at key_at
data_covered d key len b from within fits = path_covered d key len (level_of b) (path_of b) from within fits

-- the query covers a child
pub child_covered : (d key len c : ℕ) → d ≤ len → len ≤ width → d + stride ≤ width
    → begins (len - d) (path_in d key len) stride c ≡ true ↔ Covers key len (child_key d key c) (d + stride)
child_covered d key len c from within fits =
    subst (λ (y : ℕ). begins (len - d) (path_in d key len) stride c ≡ true ↔ Covers key len y (d + stride)) (sym (child_extended d key c fits))
    (path_covered d key len stride c from within fits)
