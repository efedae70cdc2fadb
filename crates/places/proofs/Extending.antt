-- The first d bits of a key, followed by j bits: what a data bit and a child stand for. Assumes nothing.
use mathlib.Core.Path.{◌≡◌, sym, ap, ap₂, ◌∙◌, subst}
use mathlib.Core.Logic.{◌↔◌}
use Prim.Native.Nat.{ℕ, ◌+◌, ◌-◌, ◌*◌, ◌/◌, ◌%◌, ◌^◌, ◌≤◌, ◌<◌}
use native.Mathlib.Nat.{add-mul, mul_assoc, mul-div_cancel, mul-add-div_right}
use native.Mathlib.Omega.{arith}
use lib.Arith.{digits_lt}
use lib.Pow.{pow_pos, pow-add, shl_lt, shr-shr, split, high, low}
use Rattle.prefix.specs.Prefix.{width, first, masked}
use Rattle.prefix.proofs.Masking.{first_lt}

-- the first d bits of the key, then the j bits x, then zeros
abbrev pub extended : ℕ → ℕ → ℕ → ℕ → ℕ
extended d key j x = masked key d + x * 2 ^ (width - (d + j))

-- ---- the first d + j bits of a key are its first d and the j after them

-- the first d
pub first_front : (key d j : ℕ) → d + j ≤ width → first (d + j) key / 2 ^ j ≡ first d key
unfolding first
first_front key d j h =
    let e : (width - (d + j)) + j ≡ width - d = omega arith in
    shr-shr key (width - (d + j)) j ∙ ap (λ (y : ℕ). key / 2 ^ y) e

-- both together
pub first_split : (key d j : ℕ) → d + j ≤ width → first (d + j) key ≡ first d key * 2 ^ j + first (d + j) key % 2 ^ j
first_split key d j h =
    sym (split (first (d + j) key) j) ∙ ap (λ (y : ℕ). y * 2 ^ j + first (d + j) key % 2 ^ j) (first_front key d j h)

-- keys agree in d + j bits exactly where they agree in the first d and in the j after them
pub first_same : (a b d j : ℕ) → d + j ≤ width → first (d + j) a ≡ first (d + j) b ↔ ((first d a ≡ first d b) × (first (d + j) a % 2 ^ j ≡ first (d + j) b % 2 ^ j))
first_same a b d j h = (
  λ e. (sym (first_front a d j h) ∙ ap (λ (y : ℕ). y / 2 ^ j) e ∙ first_front b d j h, ap (λ (y : ℕ). y % 2 ^ j) e),
  λ e. first_split a d j h ∙ ap₂ (λ (x y : ℕ). x * 2 ^ j + y) e.0 e.1 ∙ sym (first_split b d j h),
)

-- ---- the extended key

-- as its first d + j bits, shifted up
pub extended_up : (key d j x : ℕ) → d + j ≤ width → extended d key j x ≡ (first d key * 2 ^ j + x) * 2 ^ (width - (d + j))
unfolding masked
extended_up key d j x h =
    let k : ℕ = width - (d + j) in
    let e : width - d ≡ j + k = omega arith in
    ap (λ (y : ℕ). first d key * y + x * 2 ^ k) (ap (λ (y : ℕ). 2 ^ y) e ∙ pow-add 2 j k)
    ∙ ap (λ (y : ℕ). y + x * 2 ^ k) (sym (mul_assoc (first d key) (2 ^ j) (2 ^ k)))
    ∙ sym (add-mul (first d key * 2 ^ j) x (2 ^ k))

-- those bits
pub extended_first : (key d j x : ℕ) → d + j ≤ width → first (d + j) (extended d key j x) ≡ first d key * 2 ^ j + x
unfolding first
extended_first key d j x h =
    ap (λ (y : ℕ). y / 2 ^ (width - (d + j))) (extended_up key d j x h) ∙ mul-div_cancel (first d key * 2 ^ j + x) (pow_pos (width - (d + j)))

-- fewer of them, from d on
pub extended_front : (key d j x m : ℕ) → d + j ≤ width → m ≤ j → first (d + m) (extended d key j x) ≡ first d key * 2 ^ m + x / 2 ^ (j - m)
extended_front key d j x m h k =
    let n : ℕ = j - m in
    let e : (d + m) + n ≡ d + j = omega arith in
    let i : (d + m) + n ≤ width = omega arith in
    let q : j ≡ m + n = omega arith in
    sym (first_front (extended d key j x) (d + m) n i)
    ∙ ap (λ (y : ℕ). y / 2 ^ n) (ap (λ (y : ℕ). first y (extended d key j x)) e ∙ extended_first key d j x h)
    ∙ ap (λ (y : ℕ). (first d key * y + x) / 2 ^ n) (ap (λ (y : ℕ). 2 ^ y) q ∙ pow-add 2 m n)
    ∙ ap (λ (y : ℕ). (y + x) / 2 ^ n) (sym (mul_assoc (first d key) (2 ^ m) (2 ^ n)))
    ∙ mul-add-div_right (pow_pos n) (first d key * 2 ^ m) x

-- its first d bits are the key's
pub extended_depth : (key d j x : ℕ) → d + j ≤ width → x < 2 ^ j → first d (extended d key j x) ≡ first d key
extended_depth key d j x h l =
    sym (first_front (extended d key j x) d j h) ∙ ap (λ (y : ℕ). y / 2 ^ j) (extended_first key d j x h) ∙ high (first d key) j l

-- the j bits after them are x
pub extended_path : (key d j x : ℕ) → d + j ≤ width → x < 2 ^ j → first (d + j) (extended d key j x) % 2 ^ j ≡ x
extended_path key d j x h l = ap (λ (y : ℕ). y % 2 ^ j) (extended_first key d j x h) ∙ low (first d key) j l

-- the rest is zero
pub extended_masked : (key d j x : ℕ) → d + j ≤ width → masked (extended d key j x) (d + j) ≡ extended d key j x
unfolding masked
extended_masked key d j x h = ap (λ (y : ℕ). y * 2 ^ (width - (d + j))) (extended_first key d j x h) ∙ sym (extended_up key d j x h)

-- it is a key
pub extended_lt : (key d j x : ℕ) → key < 2 ^ width → d + j ≤ width → x < 2 ^ j → extended d key j x < 2 ^ width
extended_lt key d j x hk h l =
    let k : ℕ = width - (d + j) in
    let e : (d + j) + k ≡ width = omega arith in
    let f : first d key < 2 ^ d = first_lt d hk (omega arith) in
    let g : first d key * 2 ^ j + x < 2 ^ (d + j) = subst (λ (y : ℕ). first d key * 2 ^ j + x < y) (sym (pow-add 2 d j)) (digits_lt f l) in
    subst (λ (y : ℕ). y < 2 ^ width) (sym (extended_up key d j x h))
    (subst (λ (y : ℕ). (first d key * 2 ^ j + x) * 2 ^ k < 2 ^ y) e (shl_lt (d + j) k g))

-- extended by the key's own bits it is the masked key
pub extended_own : (key d j : ℕ) → d + j ≤ width → extended d key j (first (d + j) key % 2 ^ j) ≡ masked key (d + j)
unfolding masked
extended_own key d j h =
    extended_up key d j (first (d + j) key % 2 ^ j) h ∙ ap (λ (y : ℕ). y * 2 ^ (width - (d + j))) (sym (first_split key d j h))

-- it sees only the first d bits of the key
pub extended_same : (a b d j x : ℕ) → first d a ≡ first d b → extended d a j x ≡ extended d b j x
unfolding masked
extended_same a b d j x e = ap (λ (y : ℕ). y * 2 ^ (width - d) + x * 2 ^ (width - (d + j))) e
