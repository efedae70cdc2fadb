-- The order of a node's elements is the order of the prefixes that they stand for: by masked key, then by length. Assumes nothing.
use mathlib.Core.Path.{◌≡◌, refl, sym, ap, ap₂, ◌∙◌}
use mathlib.Core.Logic.{◌↔◌}
use mathlib.Core.Bool.{Bool, true, ◌&&◌, ◌||◌}
use Prim.Native.Nat.{ℕ, ◌+◌, ◌-◌, ◌*◌, ◌^◌, ◌≤◌, ◌<◌}
use native.Mathlib.Nat.{add-mul, mul_assoc, mul-one, add_left_cancel, mul-lt-mul_of_pos_right, lt_of_mul-lt-mul_right, eq_of_mul-eq-mul_right}
use native.Mathlib.Decide.{ℕ_discrete, dec_lt}
use native.Mathlib.Omega.{arith}
use borrow.Author.Tests.{ltb-true, lt-ltb, le-ltb, eq-eqb, ne_eqb}
use lib.Dec.{ltb, eqb}
use lib.Pow.{pow_pos, pow-add}
use Rattle.prefix.specs.Prefix.{width, masked, before}
use Rattle.prefix.proofs.Ordering.{Same}
use Rattle.tiers.specs.Tiers.{stride}
use Rattle.places.specs.Places.{level_of, path_of, length_at, key_at, child_key}
use Rattle.places.proofs.Levels.{level_lt, same_place}
use Rattle.places.proofs.Extending.{extended}
use Rattle.places.proofs.Prefixes.{at_masked}
use Rattle.places.proofs.Children.{child_extended, child_masked}
use Rattle.order.specs.declared.LexElem.{LexElem}
use Rattle.order.specs.declared.LexElem.TheVariants.{Data, Child}
use Rattle.order.specs.Order.{length_in, key_in, comes_before, is_elem}

-- the prefix that an element of the node of `key` at depth d stands for
abbrev pub key_of : ℕ → ℕ → LexElem → ℕ
key_of d key (Data b) = key_at d key b
key_of d key (Child c) = child_key d key c

abbrev pub length_of : ℕ → LexElem → ℕ
length_of d (Data b) = length_at d b
length_of d (Child c) = d + stride

-- its length is the depth and its length in the node
length_of_lem : (d : ℕ) (e : LexElem) → length_of d e ≡ d + length_in e
unfolding length_at
length_of_lem d (Data b) = refl
length_of_lem d (Child c) = refl

-- ---- its key is the node's bits and its key in the node, in steps of one size at every depth

-- j bits behind the node's, filled up to five
scaled : (d key j x : ℕ) → d + j ≤ width → j ≤ stride
    → extended d key j x * 2 ^ stride ≡ masked key d * 2 ^ stride + x * 2 ^ (stride - j) * 2 ^ (width - d)
scaled d key j x h l =
    let k : ℕ = width - (d + j) in
    let e : k + stride ≡ (stride - j) + (width - d) = omega arith in
    add-mul (masked key d) (x * 2 ^ k) (2 ^ stride)
    ∙ ap (λ (y : ℕ). masked key d * 2 ^ stride + y)
    (mul_assoc x (2 ^ k) (2 ^ stride)
    ∙ ap (λ (y : ℕ). x * y) (sym (pow-add 2 k stride) ∙ ap (λ (y : ℕ). 2 ^ y) e ∙ pow-add 2 (stride - j) (width - d))
    ∙ sym (mul_assoc x (2 ^ (stride - j)) (2 ^ (width - d))))

-- an element's whole key
whole_key : (d key : ℕ) (e : LexElem) → is_elem e ≡ true → length_of d e ≤ width
    → masked (key_of d key e) (length_of d e) * 2 ^ stride ≡ masked key d * 2 ^ stride + key_in e * 2 ^ (width - d)
unfolding key_at length_at
whole_key d key (Data b) i h =
    ap (λ (y : ℕ). y * 2 ^ stride) (at_masked d key b h)
    ∙ scaled d key (level_of b) (path_of b) h (let l = level_lt b (ltb-true b 31 i) in omega arith)
whole_key d key (Child c) i h =
    ap (λ (y : ℕ). y * 2 ^ stride) (child_masked d key c h ∙ child_extended d key c h)
    ∙ scaled d key stride c h (omega arith)
    ∙ ap (λ (y : ℕ). masked key d * 2 ^ stride + y * 2 ^ (width - d)) (mul-one c)

-- ---- numbers in steps compare as their steps do

-- tests of equivalent facts are equal
same_ltb : (a b x y : ℕ) → a < b ↔ x < y → ltb a b ≡ ltb x y
same_ltb a b x y h = go (dec_lt x y)
  where
    go : Dec (x < y) → ltb a b ≡ ltb x y
    go (yes k) = lt-ltb a b (h.1 k) ∙ sym (lt-ltb x y k)
    go (no k) = le-ltb a b (not_lt (dec_lt a b)) ∙ sym (le-ltb x y (omega arith))
      where
        not_lt : Dec (a < b) → b ≤ a
        not_lt (yes l) = absurd (k (h.0 l))
        not_lt (no l) = omega arith

-- and of equations
same_eqb : (a b x y : ℕ) → a ≡ b ↔ x ≡ y → eqb a b ≡ eqb x y
same_eqb a b x y h = go (ℕ_discrete x y)
  where
    go : Dec (x ≡ y) → eqb a b ≡ eqb x y
    go (yes k) = eq-eqb a b (h.1 k) ∙ sym (eq-eqb x y k)
    go (no k) = ne_eqb a b (λ e. k (h.0 e)) ∙ sym (ne_eqb x y k)

module _ (s t r a b x y : ℕ) (hs : 0 < s) (ht : 0 < t) (ea : a * s ≡ r + x * t) (eb : b * s ≡ r + y * t) where
  -- the smaller has fewer steps
  steps_lt : a < b ↔ x < y
  steps_lt = (
    λ h. lt_of_mul-lt-mul_right t (let l : a * s < b * s = mul-lt-mul_of_pos_right h hs in omega arith),
    λ h. lt_of_mul-lt-mul_right s (let l : x * t < y * t = mul-lt-mul_of_pos_right h ht in omega arith),
  )

  -- equal ones have as many
  steps_eq : a ≡ b ↔ x ≡ y
  steps_eq = (
    λ h. eq_of_mul-eq-mul_right t ht x y (add_left_cancel r (sym ea ∙ ap (λ (z : ℕ). z * s) h ∙ eb)),
    λ h. eq_of_mul-eq-mul_right s hs a b (ea ∙ ap (λ (z : ℕ). r + z * t) h ∙ sym eb),
  )

-- ---- two elements of the node

-- an element's key and length in the node say which it is
elem_same : (e f : LexElem) → is_elem e ≡ true → is_elem f ≡ true → key_in e ≡ key_in f → length_in e ≡ length_in f → e ≡ f
elem_same (Data a) (Data b) i j k l =
    let p : path_of a * 2 ^ (stride - level_of a) ≡ path_of b * 2 ^ (stride - level_of a) = k ∙ ap (λ (x : ℕ). path_of b * 2 ^ (stride - x)) (sym l) in
    ap Data
    (same_place a b (ltb-true a 31 i) (ltb-true b 31 j) l (eq_of_mul-eq-mul_right (2 ^ (stride - level_of a)) (pow_pos (stride - level_of a)) (path_of a) (path_of b) p))
elem_same (Data a) (Child c) i j k l = absurd (let h = level_lt a (ltb-true a 31 i) in omega arith)
elem_same (Child c) (Data b) i j k l = absurd (let h = level_lt b (ltb-true b 31 j) in omega arith)
elem_same (Child a) (Child b) i j k l = ap Child k

module _ (d key : ℕ) (e f : LexElem) (ie : is_elem e ≡ true) (jf : is_elem f ≡ true) (he : length_of d e ≤ width) (hf : length_of d f ≤ width) where
  -- one comes before the other exactly where its prefix does
  pub whole : before (key_of d key e) (length_of d e) (key_of d key f) (length_of d f) ≡ comes_before e f
  unfolding before comes_before
  whole =
      let r : ℕ = masked key d * 2 ^ stride in
      let t : ℕ = 2 ^ (width - d) in
      let a : ℕ = masked (key_of d key e) (length_of d e) in
      let b : ℕ = masked (key_of d key f) (length_of d f) in
      let p = whole_key d key e ie he in
      let q = whole_key d key f jf hf in
      let l = length_of_lem d e in
      let m = length_of_lem d f in
      let z = pow_pos stride in
      let w = pow_pos (width - d) in
      ap₂ (λ (u v : Bool). u || (v && ltb (length_of d e) (length_of d f)))
      (same_ltb a b (key_in e) (key_in f) (steps_lt (2 ^ stride) t r a b (key_in e) (key_in f) z w p q))
      (same_eqb a b (key_in e) (key_in f) (steps_eq (2 ^ stride) t r a b (key_in e) (key_in f) z w p q))
      ∙ ap (λ (u : Bool). ltb (key_in e) (key_in f) || (eqb (key_in e) (key_in f) && u))
      (same_ltb (length_of d e) (length_of d f) (length_in e) (length_in f) (λ h. omega arith, λ h. omega arith))

  -- they stand for one prefix only where they are one element
  pub whole_same : Same (key_of d key e) (length_of d e) (key_of d key f) (length_of d f) → e ≡ f
  whole_same s =
      let l = length_of_lem d e in
      let m = length_of_lem d f in
      elem_same e f ie jf
      ((steps_eq (2 ^ stride) (2 ^ (width - d)) (masked key d * 2 ^ stride) (masked (key_of d key e) (length_of d e)) (masked (key_of d key f) (length_of d f)) (key_in e)
      (key_in f) (pow_pos stride) (pow_pos (width - d)) (whole_key d key e ie he) (whole_key d key f jf hf)).0 s.key)
      (let n = s.len in omega arith)
