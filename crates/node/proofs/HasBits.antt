-- When a bit is set, as a test: in a number, in a word, in what two numbers share. Assumes nothing.
use mathlib.Core.Path.{◌≡◌, refl, sym, ap, ◌∙◌}
use mathlib.Core.Logic.{◌↔◌}
use mathlib.Core.Bool.{Bool, true, false}
use Prim.Native.Nat.{ℕ, ◌<◌, min}
use native.Mathlib.Nat.{min-le_left, min-le_right}
use native.Mathlib.Decide.{dec_lt}
use native.Mathlib.Omega.{arith}
use borrow.Author.Tests.{eq-eqb}
use lib.Bits.{bit_and}
use lib.Pow.{pow_pos}
use Rattle.bits.specs.Bits.{one, bit_at, has, word}
use Rattle.bits.proofs.BitByBit.{bit_lt, bit_of_and, bit_high}
use Rattle.bits.proofs.OneBit.{has_one}
use Rattle.bits.proofs.Words.{word_is, word_bit, word_above}

-- two tests that hold together are one
pub same_test : (a b : Bool) → (a ≡ true → b ≡ true) → (b ≡ true → a ≡ true) → a ≡ b
same_test true b f g = sym (f refl)
same_test false true f g = g refl
same_test false false f g = refl

-- a bit as a test and as a number
pub has_is : (n i : ℕ) → has n i ≡ true ↔ bit_at n i ≡ 1
has_is n i = (has_one n i, eq-eqb (bit_at n i) 1)

-- a test as a number
one_is : (b : Bool) → one b ≡ 1 ↔ b ≡ true
one_is true = (λ e. refl, λ e. refl)
one_is false = (λ e. absurd (let z : ⊥ = omega arith in z), ap one)

-- a word of k bits has the bits below k that its test picks
pub has_word : (k : ℕ) (f : ℕ → Bool) (i : ℕ) → has (word k f) i ≡ true ↔ ((i < k) × (f i ≡ true))
has_word k f i = (λ e. to (has_one (word k f) i e) (dec_lt i k), λ h. (has_is (word k f) i).1 (word_bit k f i h.0 ∙ (one_is (f i)).1 h.1))
  where
    to : bit_at (word k f) i ≡ 1 → Dec (i < k) → (i < k) × (f i ≡ true)
    to e (yes h) = (h, (one_is (f i)).0 (sym (word_bit k f i h) ∙ e))
    to e (no n) = absurd (let z = word_above k f i (omega arith) in let o : ⊥ = omega arith in o)

-- a word whose test picks nothing is 0
pub word_none : (k : ℕ) (f : ℕ → Bool) → ((i : ℕ) → i < k → f i ≡ false) → word k f ≡ 0
word_none k f p = sym (word_is k f 0 (pow_pos k) (λ i h. bit_high i (pow_pos i) ∙ sym (ap one (p i h))))

-- what two numbers share has the bits that both have
pub has_and : (a b i : ℕ) → has (bit_and a b) i ≡ true ↔ ((has a i ≡ true) × (has b i ≡ true))
has_and a b i = (to, back)
  where
    to : has (bit_and a b) i ≡ true → (has a i ≡ true) × (has b i ≡ true)
    to e =
        let m : min (bit_at a i) (bit_at b i) ≡ 1 = sym (bit_of_and a b i) ∙ has_one (bit_and a b) i e in
        let l = min-le_left (bit_at a i) (bit_at b i) in
        let r = min-le_right (bit_at a i) (bit_at b i) in
        let p = bit_lt a i in
        let q = bit_lt b i in
        ((has_is a i).1 (omega arith), (has_is b i).1 (omega arith))

    back : (has a i ≡ true) × (has b i ≡ true) → has (bit_and a b) i ≡ true
    back h =
        let p : bit_at a i ≡ 1 = has_one a i h.0 in
        let q : bit_at b i ≡ 1 = has_one b i h.1 in
        (has_is (bit_and a b) i).1 (bit_of_and a b i ∙ ap (λ (x : ℕ). min x (bit_at b i)) p ∙ ap (min 1) q)
