-- The bits of a number one by one: of a conjunction, a disjunction, a shift, a power, a complement; equal bits, equal numbers. Assumes nothing.
use mathlib.Core.Path.{◌≡◌, refl, sym, ap, ap₂, ◌∙◌, subst}
use mathlib.Core.Logic.{◌⊎◌, inl, inr}
use Prim.Native.Nat.{ℕ, zero, suc, ◌+◌, ◌-◌, ◌*◌, ◌/◌, ◌%◌, ◌^◌, ◌≤◌, ◌<◌, suc-le-suc, min, max}
use native.Mathlib.Nat.{mod-lt, zero-lt-suc, lt_of_lt_of_le, lt_of_le_of_lt, le_of_suc-le-suc, not-suc-le-zero, div-eq_of_lt, div-one, div_self, mul-div_cancel, mul-mod_left, min-le_left, max-le, div-add-mod', pow-suc}
use native.Mathlib.Numerals.{add-one, one-add}
use native.Mathlib.Omega.{arith}
use native.Mathlib.Decide.{dec_lt}
use lib.Arith.{digits_mod, lt-one}
use lib.Pow.{pow_pos, pow_mono, pow-lt, pow-add, shr-shr, shr_lt}
use lib.Bits.{bit_and, bit_or, and_shr, or_shr, and_step, or_step}
use Rattle.bits.specs.Bits.{bit_at}

two_pos : zero < 2
two_pos = zero-lt-suc 1

pub bit_lt : (n k : ℕ) → bit_at n k < 2
unfolding bit_at
bit_lt n k = mod-lt (n / 2 ^ k) two_pos

-- a bit is 0 or 1
pub bit_cases : (n k : ℕ) → (bit_at n k ≡ 0) ⊎ (bit_at n k ≡ 1)
bit_cases n k = go (bit_at n k) (bit_lt n k)
  where
    go : (x : ℕ) → x < 2 → (x ≡ 0) ⊎ (x ≡ 1)
    go zero h = inl refl
    go (suc zero) h = inr refl
    go (suc (suc x)) h = absurd (not-suc-le-zero (le_of_suc-le-suc (le_of_suc-le-suc h)))

-- the bits of a conjunction and of a disjunction
pub bit_of_and : (a b k : ℕ) → bit_at (bit_and a b) k ≡ min (bit_at a k) (bit_at b k)
unfolding bit_at
bit_of_and a b k =
    ap (λ (x : ℕ). x % 2) (and_shr a b k ∙ and_step (a / 2 ^ k) (b / 2 ^ k))
    ∙ digits_mod (bit_and (a / 2 ^ k / 2) (b / 2 ^ k / 2)) (lt_of_le_of_lt (min-le_left (a / 2 ^ k % 2) (b / 2 ^ k % 2)) (bit_lt a k))

pub bit_of_or : (a b k : ℕ) → bit_at (bit_or a b) k ≡ max (bit_at a k) (bit_at b k)
unfolding bit_at
bit_of_or a b k =
    ap (λ (x : ℕ). x % 2) (or_shr a b k ∙ or_step (a / 2 ^ k) (b / 2 ^ k))
    ∙ digits_mod (bit_or (a / 2 ^ k / 2) (b / 2 ^ k / 2)) (suc-le-suc (max-le (le_of_suc-le-suc (bit_lt a k)) (le_of_suc-le-suc (bit_lt b k))))

-- a number below 2 ^ k has no bit from k on
pub bit_high : {n : ℕ} (k : ℕ) → n < 2 ^ k → bit_at n k ≡ 0
unfolding bit_at
bit_high k h = ap (λ (x : ℕ). x % 2) (div-eq_of_lt h)

pub bit_above : {n : ℕ} (k j : ℕ) → n < 2 ^ k → k ≤ j → bit_at n j ≡ 0
bit_above k j h l = bit_high j (lt_of_lt_of_le h (pow_mono l))

-- the bits of n / 2 are those of n, one lower
pub bit_half : (n k : ℕ) → bit_at (n / 2) k ≡ bit_at n (suc k)
unfolding bit_at
bit_half n k = ap (λ (x : ℕ). x % 2) (shr-shr n 1 k ∙ ap (λ (e : ℕ). n / 2 ^ e) (one-add k))

pub bit_shr : (n j k : ℕ) → bit_at (n / 2 ^ j) k ≡ bit_at n (j + k)
unfolding bit_at
bit_shr n j k = ap (λ (x : ℕ). x % 2) (shr-shr n j k)

-- two numbers of k bits are equal when their bits are
pub ext : (k a b : ℕ) → a < 2 ^ k → b < 2 ^ k → ((j : ℕ) → j < k → bit_at a j ≡ bit_at b j) → a ≡ b
unfolding bit_at
ext zero a b ha hb f = lt-one ha ∙ sym (lt-one hb)
ext (suc k) a b ha hb f =
    sym (div-add-mod' a 2)
    ∙ ap₂ (λ (x y : ℕ). x * 2 + y)
    (ext k (a / 2) (b / 2) (half a ha) (half b hb) (λ j h. bit_half a j ∙ f (suc j) (suc-le-suc h) ∙ sym (bit_half b j)))
    (sym (ap (λ (x : ℕ). x % 2) (div-one a)) ∙ f zero (zero-lt-suc k) ∙ ap (λ (x : ℕ). x % 2) (div-one b))
    ∙ div-add-mod' b 2
  where
    half : (n : ℕ) → n < 2 ^ suc k → n / 2 < 2 ^ k
    half n h = shr_lt k 1 (subst (λ (e : ℕ). n < 2 ^ e) (sym (add-one k)) h)

-- the bits of a power of two
pub bit_pow_same : (b : ℕ) → bit_at (2 ^ b) b ≡ 1
unfolding bit_at
bit_pow_same b = ap (λ (x : ℕ). x % 2) (div_self (pow_pos b))

bit_pow_low : (d k : ℕ) → bit_at (2 ^ (suc d + k)) k ≡ 0
unfolding bit_at
bit_pow_low d k =
    ap (λ (x : ℕ). x / 2 ^ k % 2) (pow-add 2 (suc d) k) ∙ ap (λ (x : ℕ). x % 2) (mul-div_cancel (2 ^ suc d) (pow_pos k) ∙ pow-suc 2 d)
    ∙ mul-mod_left (2 ^ d) 2

pub bit_pow_other : (b k : ℕ) → (k ≡ b → ⊥) → bit_at (2 ^ b) k ≡ 0
bit_pow_other b k f = go (dec_lt k b)
  where
    go : Dec (k < b) → bit_at (2 ^ b) k ≡ 0
    go (yes h) =
        let e : suc (b - suc k) + k ≡ b = omega arith in
        subst (λ (x : ℕ). bit_at (2 ^ x) k ≡ 0) e (bit_pow_low (b - suc k) k)
    go (no g) =
        let l : b < k = omega arith in
        bit_high k (pow-lt l)

-- the complement in k bits
pub bit_not : (k a j : ℕ) → a < 2 ^ k → j < k → bit_at ((2 ^ k - 1) - a) j + bit_at a j ≡ 1
unfolding bit_at
bit_not zero a j h l = absurd (not-suc-le-zero l)
bit_not (suc k) a zero h l =
    ap₂ (λ (x y : ℕ). x % 2 + y % 2) (div-one ((2 ^ suc k - 1) - a)) (div-one a)
    ∙ (let e : 2 ^ suc k ≡ 2 ^ k * 2 = pow-suc 2 k in omega arith)
bit_not (suc k) a (suc j) h l =
    let e : 2 ^ suc k ≡ 2 ^ k * 2 = pow-suc 2 k in
    let q : ((2 ^ suc k - 1) - a) / 2 ≡ (2 ^ k - 1) - a / 2 = omega arith in
    ap₂ (λ (x y : ℕ). x + y) (sym (bit_half ((2 ^ suc k - 1) - a) j) ∙ ap (λ (x : ℕ). bit_at x j) q) (sym (bit_half a j))
    ∙ bit_not k (a / 2) j (omega arith) (le_of_suc-le-suc l)
