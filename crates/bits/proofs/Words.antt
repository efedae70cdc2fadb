-- The number that a test picks bit by bit: its bits, its bound, and when two are equal. Assumes nothing.
use mathlib.Core.Path.{◌≡◌, sym, ap, ◌∙◌}
use mathlib.Core.Logic.{◌⊎◌, inl, inr}
use mathlib.Core.Bool.{Bool, true, false}
use Prim.Native.Nat.{ℕ, zero, suc, ◌+◌, ◌-◌, ◌*◌, ◌/◌, ◌%◌, ◌^◌, ◌≤◌, ◌<◌, min}
use native.Mathlib.Nat.{le_of_suc-le-suc, not-suc-le-zero, eq-or-lt_of_le, pow-suc, add_comm, add-mul-mod_self_left, add-mul-div_right, mul_assoc, mul_comm, mod-eq_of_lt}
use native.Mathlib.Omega.{arith}
use lib.Pow.{pow_pos, pow-add, high}
use lib.Bits.{bit_and}
use Rattle.bits.specs.Bits.{one, bit_at, word}
use Rattle.bits.proofs.BitByBit.{bit_of_and, bit_above, ext}

-- a word of k bits is below 2 ^ k
pub word_lt : (k : ℕ) (f : ℕ → Bool) → word k f < 2 ^ k
unfolding word
word_lt zero f = pow_pos 0
word_lt (suc k) f = go (f k) (word_lt k f)
  where
    go : (b : Bool) → word k f < 2 ^ k → word k f + one b * 2 ^ k < 2 ^ suc k
    go true h = let e : 2 ^ suc k ≡ 2 ^ k * 2 = pow-suc 2 k in omega arith
    go false h = let e : 2 ^ suc k ≡ 2 ^ k * 2 = pow-suc 2 k in omega arith

-- its top bit, and the bits below
top : (k x lo : ℕ) → lo < 2 ^ k → x < 2 → bit_at (lo + x * 2 ^ k) k ≡ x
unfolding bit_at
top k x lo h l = ap (λ (y : ℕ). y / 2 ^ k % 2) (add_comm lo (x * 2 ^ k)) ∙ ap (λ (y : ℕ). y % 2) (high x k h) ∙ mod-eq_of_lt l

-- what is added at 2 ^ k changes no lower bit
low_bit : (k i x lo : ℕ) → i < k → bit_at (lo + x * 2 ^ k) i ≡ bit_at lo i
unfolding bit_at
low_bit k i x lo h =
    let d : ℕ = k - suc i in
    let e : suc d + i ≡ k = omega arith in
    let p : x * 2 ^ k ≡ (2 * (x * 2 ^ d)) * 2 ^ i = ap (λ (y : ℕ). x * 2 ^ y) (sym e) ∙ ap (λ (y : ℕ). x * y) (pow-add 2 (suc d) i ∙ ap (λ (y : ℕ). y * 2 ^ i) (pow-suc 2 d))
    ∙ sym (mul_assoc x (2 ^ d * 2) (2 ^ i)) ∙ ap (λ (y : ℕ). y * 2 ^ i) (sym (mul_assoc x (2 ^ d) 2) ∙ mul_comm (x * 2 ^ d) 2) in
    ap (λ (y : ℕ). (lo + y) / 2 ^ i % 2) p ∙ ap (λ (y : ℕ). y % 2) (add-mul-div_right lo (2 * (x * 2 ^ d)) (pow_pos i)) ∙ add-mul-mod_self_left (lo / 2 ^ i) 2 (x * 2 ^ d)

-- bit i is what the test says
pub word_bit : (k : ℕ) (f : ℕ → Bool) (i : ℕ) → i < k → bit_at (word k f) i ≡ one (f i)
unfolding word
word_bit zero f i h = absurd (not-suc-le-zero h)
word_bit (suc k) f i h = go (λ l. word_bit k f i l) (eq-or-lt_of_le (le_of_suc-le-suc h))
  where
    one_lt : (b : Bool) → one b < 2
    one_lt true = omega arith
    one_lt false = omega arith

    go : (i < k → bit_at (word k f) i ≡ one (f i)) → (i ≡ k) ⊎ (i < k) → bit_at (word k f + one (f k) * 2 ^ k) i ≡ one (f i)
    go ih (inl e) = rw e (top k (one (f k)) (word k f) (word_lt k f) (one_lt (f k)))
    go ih (inr l) = low_bit k i (one (f k)) (word k f) l ∙ ih l

-- and there is no bit from k on
pub word_above : (k : ℕ) (f : ℕ → Bool) (i : ℕ) → k ≤ i → bit_at (word k f) i ≡ 0
word_above k f i h = bit_above k i (word_lt k f) h

-- a number of k bits whose bits are what the test says is the word
pub word_is : (k : ℕ) (f : ℕ → Bool) (n : ℕ) → n < 2 ^ k → ((i : ℕ) → i < k → bit_at n i ≡ one (f i)) → n ≡ word k f
word_is k f n h p = ext k n (word k f) h (word_lt k f) (λ i l. p i l ∙ sym (word_bit k f i l))

-- equal tests, equal words
pub word_ext : (k : ℕ) (f g : ℕ → Bool) → ((i : ℕ) → i < k → f i ≡ g i) → word k f ≡ word k g
word_ext k f g p = word_is k g (word k f) (word_lt k f) (λ i l. word_bit k f i l ∙ ap one (p i l))

-- the bits that a number and a word share
pub and_word : (k : ℕ) (f : ℕ → Bool) (n i : ℕ) → i < k → bit_at (bit_and n (word k f)) i ≡ min (bit_at n i) (one (f i))
and_word k f n i l = bit_of_and n (word k f) i ∙ ap (min (bit_at n i)) (word_bit k f i l)
