-- Laws of finite sums: a change at one place, and along a chain. Assumes nothing.
use mathlib.Core.Path.{◌≡◌, refl, sym, ap, ◌∙◌}
use mathlib.Core.Bool.{Bool, true, false}
use Prim.Native.Nat.{ℕ, zero, suc, ◌+◌, ◌-◌, ◌*◌, ◌≤◌, ◌<◌}
use native.Mathlib.Omega.{arith}
use native.Mathlib.Decide.{ℕ_discrete, dec_lt}
use native.Mathlib.Nat.{suc-mul}
use borrow.Author.Tests.{lt-ltb, le-ltb}
use lib.Dec.{ltb}
use Rattle.bits.specs.Bits.{one}
use Rattle.rules.specs.Sums.{sum}
use Rattle.rules.proofs.Tests.{one_le}

-- equal terms, equal sums
pub sum_same : (n : ℕ) (f g : ℕ → ℕ) → ((j : ℕ) → j < n → f j ≡ g j) → sum n f ≡ sum n g
unfolding sum
sum_same zero f g h = refl
sum_same (suc n) f g h = rw (sum_same n f g (λ j l. h j (omega arith)), h n (omega arith))

-- a sum of zeros
pub sum_zero : (n : ℕ) (f : ℕ → ℕ) → ((j : ℕ) → j < n → f j ≡ 0) → sum n f ≡ 0
unfolding sum
sum_zero zero f h = refl
sum_zero (suc n) f h = rw (sum_zero n f (λ j l. h j (omega arith)), h n (omega arith))

-- larger terms, no smaller sum
pub sum_le : (n : ℕ) (f g : ℕ → ℕ) → ((j : ℕ) → j < n → f j ≤ g j) → sum n f ≤ sum n g
unfolding sum
sum_le zero f g h = omega arith
sum_le (suc n) f g h = omega (arith, sum_le n f g (λ j l. h j (omega arith)), h n (omega arith))

-- a sum is at least each of its terms
pub sum_part : (n i : ℕ) (f : ℕ → ℕ) → i < n → f i ≤ sum n f
unfolding sum
sum_part zero i f h = absurd (omega arith)
sum_part (suc n) i f h = go (ℕ_discrete i n) (sum_part n i f)
  where
    go : Dec (i ≡ n) → (i < n → f i ≤ sum n f) → f i ≤ sum n f + f n
    go (yes e) ih = rw e (omega arith)
    go (no e) ih = omega (arith, ih (omega arith))

-- a sum changes by what one place changes
pub sum_at : (n i : ℕ) (f g : ℕ → ℕ) → i < n → ((j : ℕ) → j < n → (i ≡ j → ⊥) → f j ≡ g j) → sum n f + g i ≡ sum n g + f i
unfolding sum
sum_at zero i f g h s = absurd (omega arith)
sum_at (suc n) i f g h s = go (ℕ_discrete i n) (λ l. sum_at n i f g l (λ j m. s j (omega arith)))
  where
    go : Dec (i ≡ n) → (i < n → sum n f + g i ≡ sum n g + f i) → sum n f + f n + g i ≡ sum n g + g n + f i
    go (yes e) ih = let q : sum n f ≡ sum n g = sum_same n f g (λ j l. s j (omega arith) (λ z. omega arith)) in rw e (omega arith)
    go (no e) ih = omega (arith, ih (omega arith), s n (omega arith) e)

-- changes term by term add up
pub sum_cross : (n : ℕ) (f g p q : ℕ → ℕ) → ((j : ℕ) → j < n → f j + q j ≡ g j + p j) → sum n f + sum n q ≡ sum n g + sum n p
unfolding sum
sum_cross zero f g p q h = refl
sum_cross (suc n) f g p q h = omega (arith, sum_cross n f g p q (λ j l. h j (omega arith)), h n (omega arith))

-- a chain from i to k: the term at i goes from x to y, each between goes from 0 to z, the rest stay
pub sum_chain : (n i k x y z : ℕ) (f g : ℕ → ℕ) → i < k → k ≤ n → g i ≡ x → f i ≡ y
    → ((j : ℕ) → i < j → j < k → (g j ≡ 0) × (f j ≡ z)) → ((j : ℕ) → j < i → f j ≡ g j) → ((j : ℕ) → k ≤ j → f j ≡ g j)
    → sum n f + x ≡ sum n g + y + (k - suc i) * z
sum_chain n i k x y z f g h l ex ey inner low high =
    let a : i + suc (k - suc i) ≡ k = omega arith in
    let b : k + (n - k) ≡ n = omega arith in
    rw (← b) (after (n - k))
  where
    start : sum (suc i) f + x ≡ sum (suc i) g + y
    start = unfold sum in omega (arith, sum_same i f g low, ex, ey)

    between : (m : ℕ) → suc i + m ≤ k → sum (suc i + m) f + x ≡ sum (suc i + m) g + y + m * z
    between = elim [
      | zero ↦ λ w. let e : suc i + 0 ≡ suc i = omega arith in rw e (omega (arith, start))
      | suc (m → ih) ↦ λ w.
          let e : suc i + suc m ≡ suc (suc i + m) = omega arith in
          let t = inner (suc i + m) (omega arith) (omega arith) in
          rw e (unfold sum in omega (arith, ih (omega arith), t.0, t.1, suc-mul m z))
    ]

    all : sum k f + x ≡ sum k g + y + (k - suc i) * z
    all = let e : suc i + (k - suc i) ≡ k = omega arith in rw e at (between (k - suc i) (omega arith))

    after : (m : ℕ) → sum (k + m) f + x ≡ sum (k + m) g + y + (k - suc i) * z
    after = elim [
      | zero ↦ let e : k + 0 ≡ k = omega arith in rw e all
      | suc (m → ih) ↦ let e : k + suc m ≡ suc (k + m) = omega arith in rw e (unfold sum in omega (arith, ih, high (k + m) (omega arith)))
    ]

-- ---- tests counted

-- at most one a place
pub count_le : (n : ℕ) (t : ℕ → Bool) → sum n (λ j. one (t j)) ≤ n
unfolding sum
count_le zero t = omega arith
count_le (suc n) t = omega (arith, count_le n t, one_le (t n))

-- tests that all hold
pub count_all : (n : ℕ) (t : ℕ → Bool) → ((j : ℕ) → j < n → t j ≡ true) → sum n (λ j. one (t j)) ≡ n
unfolding sum
count_all zero t h = refl
count_all (suc n) t h = rw (count_all n t (λ j l. h j (omega arith)), h n (omega arith)) (omega arith)

-- a test that holds only where it held before holds at the first places, as many as are counted
pub count_first : (n : ℕ) (t : ℕ → Bool) → ((j : ℕ) → t (suc j) ≡ true → t j ≡ true) → (j : ℕ) → j < n → t j ≡ ltb j (sum n (λ i. one (t i)))
unfolding sum
count_first zero t c j h = absurd (omega arith)
count_first (suc n) t c j h = go (t n) refl (count_first n t c)
  where
    back : (m i : ℕ) → t (i + m) ≡ true → t i ≡ true
    back = elim [
      | zero ↦ λ i e. let z : i + 0 ≡ i = omega arith in rw z at e
      | suc (m → ih) ↦ λ i e. let z : i + suc m ≡ suc (i + m) = omega arith in ih i (c (i + m) (rw z at e))
    ]

    go : (b : Bool) → t n ≡ b → ((j : ℕ) → j < n → t j ≡ ltb j (sum n (λ i. one (t i)))) → t j ≡ ltb j (sum n (λ i. one (t i)) + one (t n))
    go true e ih =
        let all : (i : ℕ) → i ≤ n → t i ≡ true = λ i l. back (n - i) i (let z : i + (n - i) ≡ n = omega arith in rw z e) in
        rw (all j (omega arith), count_all n t (λ i l. all i (omega arith)), e) (sym (lt-ltb j (n + 1) (omega arith)))
    go false e ih = rw e (let z : sum n (λ i. one (t i)) + 0 ≡ sum n (λ i. one (t i)) = omega arith in rw z (at (dec_lt j n)))
      where
        at : Dec (j < n) → t j ≡ ltb j (sum n (λ i. one (t i)))
        at (yes l) = ih j l
        at (no l) = let z : j ≡ n = omega arith in ap t z ∙ e ∙ sym (le-ltb j (sum n (λ i. one (t i))) (omega (arith, count_le n t)))
