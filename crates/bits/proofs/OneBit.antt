-- A number with one bit set or clear: its bits, its bound, and what the machine computes for it. Assumes nothing.
use mathlib.Core.Path.{◌≡◌, sym, ap, ap₂, ◌∙◌, subst}
use mathlib.Core.Logic.{◌⊎◌, inl, inr}
use mathlib.Core.Bool.{true, false, not}
use Prim.Native.Nat.{ℕ, suc, ◌+◌, ◌-◌, ◌*◌, ◌/◌, ◌%◌, ◌^◌, ◌≤◌, ◌<◌, min, max}
use native.Mathlib.Nat.{mod-lt, le_of_suc-le-suc, mod-eq_of_lt, min-eq_left, max-zero, max-eq_right, min-zero, add-zero, one-mul, zero-mul, suc-mul, lt_of_le_of_lt}
use native.Mathlib.Omega.{arith}
use native.Mathlib.Decide.{ℕ_discrete}
use borrow.Author.Tests.{ne_eqb}
use lib.Dec.{eqb}
use lib.Pow.{pow_pos, pow-lt, split, high}
use lib.Bits.{bit_and, bit_or, and_mask, and_block, and_zero_r, or_add_and, or_lt, and_le_l}
use Rattle.bits.specs.Bits.{bit_at, has, with_bit, without_bit}
use Rattle.bits.proofs.BitByBit.{bit_lt, bit_cases, bit_of_and, bit_of_or, bit_pow_same, bit_pow_other, bit_not, ext}

-- 1 << b on the machine
pub one_shl : {b : ℕ} (k : ℕ) → b < k → 1 * 2 ^ b % 2 ^ k ≡ 2 ^ b
one_shl {b} k h = ap (λ (x : ℕ). x % 2 ^ k) (one-mul (2 ^ b)) ∙ mod-eq_of_lt (pow-lt h)

-- n & (1 << b)
pub and_pow : (n b : ℕ) → bit_and n (2 ^ b) ≡ bit_at n b * 2 ^ b
unfolding bit_at
and_pow n b =
    ap₂ bit_and (sym (split n b)) (sym (add-zero (1 * 2 ^ b) ∙ one-mul (2 ^ b)))
    ∙ and_block b (n / 2 ^ b) 1 (n % 2 ^ b) 0 (mod-lt n (pow_pos b)) (pow_pos b)
    ∙ ap₂ (λ (x y : ℕ). x * 2 ^ b + y) (and_mask (n / 2 ^ b) 1) (and_zero_r (n % 2 ^ b))
    ∙ add-zero (n / 2 ^ b % 2 * 2 ^ b)

-- n & (1 << b) is 0 exactly where the bit is clear
pub and_test : (n b : ℕ) → not (eqb (bit_and n (2 ^ b)) 0) ≡ has n b
and_test n b = ap (λ (x : ℕ). not (eqb x 0)) (and_pow n b) ∙ go (bit_at n b) (bit_cases n b)
  where
    go : (x : ℕ) → (x ≡ 0) ⊎ (x ≡ 1) → not (eqb (x * 2 ^ b) 0) ≡ eqb x 1
    go x (inl e) = ap (λ (y : ℕ). not (eqb y 0)) (ap (λ (y : ℕ). y * 2 ^ b) e ∙ zero-mul (2 ^ b)) ∙ sym (ap (λ (y : ℕ). eqb y 1) e)
    go x (inr e) =
        ap not (ne_eqb (x * 2 ^ b) 0 (λ z. let p = pow_pos b in let q : x * 2 ^ b ≡ 2 ^ b = ap (λ (y : ℕ). y * 2 ^ b) e ∙ one-mul (2 ^ b) in omega arith))
        ∙ sym (ap (λ (y : ℕ). eqb y 1) e)

-- a bit as a test is the bit as a number
pub has_one : (n b : ℕ) → has n b ≡ true → bit_at n b ≡ 1
has_one n b e = go (bit_at n b) (bit_cases n b) e
  where
    go : (x : ℕ) → (x ≡ 0) ⊎ (x ≡ 1) → eqb x 1 ≡ true → x ≡ 1
    go x (inl z) q = let w : false ≡ true = rw z at q in let o : ◌≡◌ {A = ℕ} 0 1 = cc in omega arith
    go x (inr z) q = z

pub has_zero : (n b : ℕ) → has n b ≡ false → bit_at n b ≡ 0
has_zero n b e = go (bit_at n b) (bit_cases n b) e
  where
    go : (x : ℕ) → (x ≡ 0) ⊎ (x ≡ 1) → eqb x 1 ≡ false → x ≡ 0
    go x (inl z) q = z
    go x (inr z) q = let w : true ≡ false = rw z at q in let o : ◌≡◌ {A = ℕ} 0 1 = cc in omega arith

-- ---- a bit set

-- n | (1 << b)
pub or_with : (n b : ℕ) → bit_or n (2 ^ b) ≡ with_bit n b
unfolding with_bit
or_with n b = go (bit_at n b) (bit_cases n b) (and_pow n b)
  where
    go : (x : ℕ) → (x ≡ 0) ⊎ (x ≡ 1) → bit_and n (2 ^ b) ≡ x * 2 ^ b → bit_or n (2 ^ b) ≡ n + (1 - x) * 2 ^ b
    go x (inl e) q = rw e (let s = or_add_and n (2 ^ b) in let z : x * 2 ^ b ≡ 0 = rw e (zero-mul (2 ^ b)) in let o = one-mul (2 ^ b) in omega arith)
    go x (inr e) q = rw e (let s = or_add_and n (2 ^ b) in let z : x * 2 ^ b ≡ 2 ^ b = rw e (one-mul (2 ^ b)) in let o = zero-mul (2 ^ b) in omega arith)

-- the bit is set, the others are as they were
pub with_same : (n b : ℕ) → bit_at (with_bit n b) b ≡ 1
with_same n b =
    ap (λ (x : ℕ). bit_at x b) (sym (or_with n b)) ∙ bit_of_or n (2 ^ b) b ∙ ap (max (bit_at n b)) (bit_pow_same b)
    ∙ max-eq_right (le_of_suc-le-suc (bit_lt n b))

pub with_other : (n b k : ℕ) → (k ≡ b → ⊥) → bit_at (with_bit n b) k ≡ bit_at n k
with_other n b k f =
    ap (λ (x : ℕ). bit_at x k) (sym (or_with n b)) ∙ bit_of_or n (2 ^ b) k ∙ ap (max (bit_at n k)) (bit_pow_other b k f) ∙ max-zero (bit_at n k)

-- it stays within k bits
pub with_lt : (k n b : ℕ) → n < 2 ^ k → b < k → with_bit n b < 2 ^ k
with_lt k n b hn hb = subst (λ (x : ℕ). x < 2 ^ k) (or_with n b) (or_lt k n (2 ^ b) hn (pow-lt hb))

-- a bit that is set already
pub with_again : (n b : ℕ) → bit_at n b ≡ 1 → with_bit n b ≡ n
unfolding with_bit
with_again n b e = rw e (let o = zero-mul (2 ^ b) in omega arith)

-- ---- a bit clear

-- a bit that is clear already
pub without_again : (n b : ℕ) → bit_at n b ≡ 0 → without_bit n b ≡ n
unfolding without_bit
without_again n b e = rw e (let o = zero-mul (2 ^ b) in omega arith)

-- with bit b of n set, what is left without it
left : (n b : ℕ) → bit_at n b ≡ 1 → without_bit n b ≡ (n / 2 ^ b - 1) * 2 ^ b + n % 2 ^ b
unfolding without_bit bit_at
left n b e =
    rw e
    (let s = split n b in
    let o = one-mul (2 ^ b) in
    let q : n / 2 ^ b ≡ suc (n / 2 ^ b - 1) = omega arith in
    let m : n / 2 ^ b * 2 ^ b ≡ (n / 2 ^ b - 1) * 2 ^ b + 2 ^ b = ap (λ (x : ℕ). x * 2 ^ b) q ∙ suc-mul (n / 2 ^ b - 1) (2 ^ b) in
    omega arith)

-- the bit is clear, the others are as they were
pub without_same : (n b : ℕ) → bit_at (without_bit n b) b ≡ 0
unfolding bit_at
without_same n b = go (bit_cases n b)
  where
    go : (bit_at n b ≡ 0) ⊎ (bit_at n b ≡ 1) → bit_at (without_bit n b) b ≡ 0
    go (inl e) = ap (λ (x : ℕ). bit_at x b) (without_again n b e) ∙ e
    go (inr e) =
        ap (λ (x : ℕ). x / 2 ^ b % 2) (left n b e) ∙ ap (λ (x : ℕ). x % 2) (high (n / 2 ^ b - 1) b (mod-lt n (pow_pos b)))
        ∙ (let z : (n / 2 ^ b - 1) % 2 ≡ 0 = omega arith in z)

-- putting a bit back undoes taking it out
pub with_without : (n b : ℕ) → bit_at n b ≡ 1 → with_bit (without_bit n b) b ≡ n
unfolding with_bit without_bit
with_without n b e =
    let l : bit_at n b * 2 ^ b ≤ n = subst (λ (x : ℕ). x ≤ n) (and_pow n b) (and_le_l n (2 ^ b)) in
    let m : bit_at n b * 2 ^ b ≡ 1 * 2 ^ b = ap (λ (y : ℕ). y * 2 ^ b) e in
    ap (λ (y : ℕ). without_bit n b + (1 - y) * 2 ^ b) (without_same n b) ∙ omega arith

pub without_other : (n b k : ℕ) → (k ≡ b → ⊥) → bit_at (without_bit n b) k ≡ bit_at n k
without_other n b k f = go (bit_cases n b)
  where
    go : (bit_at n b ≡ 0) ⊎ (bit_at n b ≡ 1) → bit_at (without_bit n b) k ≡ bit_at n k
    go (inl e) = ap (λ (x : ℕ). bit_at x k) (without_again n b e)
    go (inr e) = sym (with_other (without_bit n b) b k f) ∙ ap (λ (x : ℕ). bit_at x k) (with_without n b e)

-- it is at most the number
pub without_le : (n b : ℕ) → without_bit n b ≤ n
unfolding without_bit
without_le n b = omega arith

-- taking a bit out undoes putting it in
pub without_with : (n b : ℕ) → bit_at n b ≡ 0 → without_bit (with_bit n b) b ≡ n
unfolding with_bit without_bit
without_with n b e =
    let z : (1 - bit_at n b) * 2 ^ b ≡ 1 * 2 ^ b = ap (λ (y : ℕ). (1 - y) * 2 ^ b) e in
    ap (λ (y : ℕ). with_bit n b - y * 2 ^ b) (with_same n b) ∙ omega arith

-- n & !(1 << b), in k bits
pub and_without : (k n b : ℕ) → n < 2 ^ k → b < k → bit_and n ((2 ^ k - 1) - 2 ^ b) ≡ without_bit n b
and_without k n b hn hb =
    ext k (bit_and n ((2 ^ k - 1) - 2 ^ b)) (without_bit n b) (lt_of_le_of_lt (and_le_l n ((2 ^ k - 1) - 2 ^ b)) hn) (lt_of_le_of_lt (without_le n b) hn)
    (λ j l. bit_of_and n ((2 ^ k - 1) - 2 ^ b) j ∙ go j l (ℕ_discrete j b))
  where
    go : (j : ℕ) → j < k → Dec (j ≡ b) → min (bit_at n j) (bit_at ((2 ^ k - 1) - 2 ^ b) j) ≡ bit_at (without_bit n b) j
    go j l (yes e) =
        let s = bit_not k (2 ^ b) j (pow-lt hb) l in
        let o : bit_at (2 ^ b) j ≡ 1 = ap (bit_at (2 ^ b)) e ∙ bit_pow_same b in
        let z : bit_at ((2 ^ k - 1) - 2 ^ b) j ≡ 0 = omega arith in
        ap (min (bit_at n j)) z ∙ min-zero (bit_at n j) ∙ sym (ap (bit_at (without_bit n b)) e ∙ without_same n b)
    go j l (no f) =
        let s = bit_not k (2 ^ b) j (pow-lt hb) l in
        let o = bit_pow_other b j f in
        let z : bit_at ((2 ^ k - 1) - 2 ^ b) j ≡ 1 = omega arith in
        ap (min (bit_at n j)) z ∙ min-eq_left (le_of_suc-le-suc (bit_lt n j)) ∙ sym (without_other n b j f)
