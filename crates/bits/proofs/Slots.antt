-- Slots: how many bits are set below a bit. Inserting a bit shifts the slots above it up, removing one shifts them down. Assumes nothing.
use mathlib.Core.Path.{◌≡◌, refl, sym, ap, ap₂, ◌∙◌}
use Prim.Native.Nat.{ℕ, zero, suc, ◌+◌, ◌%◌, ◌/◌, ◌^◌, ◌≤◌, ◌<◌, zero-le}
use native.Mathlib.Nat.{mod-lt, le_refl, le_of_suc-le-suc, not-suc-le-zero, mod-one, mod-eq_of_lt, zero-div}
use native.Mathlib.Numerals.{one-add}
use native.Mathlib.Omega.{arith}
use native.Mathlib.Decide.{le_ind}
use lib.Pow.{pow_pos, mod-pow-add}
use lib.Count.{ones, ones_cat}
use Rattle.bits.specs.Bits.{bit_at, set_below, with_bit, without_bit}
use Rattle.bits.proofs.BitByBit.{bit_lt}
use Rattle.bits.proofs.OneBit.{with_same, with_other, without_same, without_other}

-- the machine's count of the bits below b
pub below_ones : (n b : ℕ) → ones (n % 2 ^ b) ≡ set_below n b
unfolding set_below ones bit_at
below_ones n zero = ap ones (mod-one n)
below_ones n (suc b) =
    ap (λ (e : ℕ). ones (n % 2 ^ e)) (sym (one-add b)) ∙ ap ones (mod-pow-add n 1 b)
    ∙ ones_cat b (n / 2 ^ b % 2) (n % 2 ^ b) (mod-lt n (pow_pos b))
    ∙ ap₂ (λ (x y : ℕ). x + y) (bit_ones (n / 2 ^ b % 2) (bit_lt n b)) (below_ones n b)
    ∙ omega arith
  where
    bit_ones : (x : ℕ) → x < 2 → ones x ≡ x
    bit_ones zero h = refl
    bit_ones (suc zero) h = refl
    bit_ones (suc (suc x)) h = absurd (not-suc-le-zero (le_of_suc-le-suc (le_of_suc-le-suc h)))

-- the whole count of a number of k bits
pub count_ones : {n : ℕ} (k : ℕ) → n < 2 ^ k → ones n ≡ set_below n k
count_ones {n} k h = ap ones (sym (mod-eq_of_lt h)) ∙ below_ones n k

-- equal bits below k, equal counts
pub below_ext : (a b k : ℕ) → ((j : ℕ) → j < k → bit_at a j ≡ bit_at b j) → set_below a k ≡ set_below b k
unfolding set_below
below_ext a b zero f = refl
below_ext a b (suc k) f = ap₂ (λ (x y : ℕ). x + y) (below_ext a b k (λ j h. f j (omega arith))) (f k (le_refl (suc k)))

pub below_mono : (n : ℕ) {j k : ℕ} → j ≤ k → set_below n j ≤ set_below n k
unfolding set_below
below_mono n {j} {k} h = le_ind (λ (m : ℕ). set_below n j ≤ set_below n m) (le_refl (set_below n j)) (λ m l e. omega arith) k h

-- the slot of a set bit is below the slots of the higher bits, and below the count
pub below_strict : (n : ℕ) {j k : ℕ} → bit_at n j ≡ 1 → j < k → set_below n j < set_below n k
unfolding set_below
below_strict n {j} {k} e h = let l : set_below n j + bit_at n j ≤ set_below n k = below_mono n h in omega arith

-- a count of k bits is at most k
pub below_le : (n k : ℕ) → set_below n k ≤ k
unfolding set_below
below_le n zero = zero-le
below_le n (suc k) = let h = below_le n k in let l = bit_lt n k in omega arith

-- 0 has no set bit
pub below_none : (b : ℕ) → set_below 0 b ≡ 0
unfolding set_below bit_at
below_none zero = refl
below_none (suc b) = let e = below_none b in let z : bit_at 0 b ≡ 0 = ap (λ (x : ℕ). x % 2) (zero-div (2 ^ b)) in omega arith

-- ---- one more bit

module _ (n b : ℕ) where
  -- the slots of the bits up to the new one stay
  pub insert_low : (k : ℕ) → k ≤ b → set_below (with_bit n b) k ≡ set_below n k
  insert_low k h = below_ext (with_bit n b) n k (λ j l. with_other n b j (λ e. omega arith))

  -- the slots above move up by one
  pub insert_high : bit_at n b ≡ 0 → (k : ℕ) → b < k → set_below (with_bit n b) k ≡ suc (set_below n k)
  unfolding set_below
  insert_high z k h =
      le_ind (λ (m : ℕ). set_below (with_bit n b) m ≡ suc (set_below n m))
      (let l = insert_low b (le_refl b) in let o = with_same n b in omega arith)
      (λ m l e. let q : bit_at (with_bit n b) m ≡ bit_at n m = with_other n b m (λ d. omega arith) in omega arith)
      k h

-- ---- one bit fewer

module _ (n b : ℕ) where
  -- the slots of the bits up to the one removed stay
  pub remove_low : (k : ℕ) → k ≤ b → set_below (without_bit n b) k ≡ set_below n k
  remove_low k h = below_ext (without_bit n b) n k (λ j l. without_other n b j (λ e. omega arith))

  -- the slots above move down by one
  pub remove_high : bit_at n b ≡ 1 → (k : ℕ) → b < k → suc (set_below (without_bit n b) k) ≡ set_below n k
  unfolding set_below
  remove_high z k h =
      le_ind (λ (m : ℕ). suc (set_below (without_bit n b) m) ≡ set_below n m)
      (let l = remove_low b (le_refl b) in let o = without_same n b in omega arith)
      (λ m l e. let q : bit_at (without_bit n b) m ≡ bit_at n m = without_other n b m (λ d. omega arith) in omega arith)
      k h
