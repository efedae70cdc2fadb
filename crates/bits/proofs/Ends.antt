-- The highest and the lowest set bit: what the machine's counts of zeros give, and that each is one number. Assumes nothing.
use mathlib.Core.Path.{◌≡◌, refl, sym, ap, ◌∙◌, subst}
use Prim.Native.Nat.{ℕ, zero, suc, ◌+◌, ◌*◌, ◌/◌, ◌%◌, ◌^◌, ◌≤◌, ◌<◌}
use native.Mathlib.Nat.{mod-lt, zero-lt-suc, le_antisymm, le_of_suc-le-suc, not-suc-le-zero, div-one, div-eq_of_lt-le, pow-suc}
use native.Mathlib.Omega.{arith}
use native.Mathlib.Decide.{dec_lt}
use lib.Arith.{lt-one}
use lib.Count.{count_leading_zeros, leading_top, count_trailing_zeros, under}
use Rattle.bits.specs.Bits.{bit_at, Highest, Lowest}
use Rattle.bits.proofs.BitByBit.{bit_above, bit_half}

-- what the count of leading zeros says
pub highest_law : (k n : ℕ) → zero < n → n < 2 ^ k → (j : ℕ) × (count_leading_zeros k n + suc j ≡ k) × Highest n j
unfolding bit_at
highest_law k n p h =
    let t = leading_top k n p h in
    let j : ℕ = t.0 in
    let e : 2 ^ suc j ≡ 2 ^ j * 2 = pow-suc 2 j in (
      j,
      t.1,
      record {
        set = ap (λ (x : ℕ). x % 2) (div-eq_of_lt-le {k = 1} (2 ^ j) {m = n} (omega arith) (omega arith));
        above = λ i l. bit_above (suc j) i t.3 l;
      },
    )

-- what the count of trailing zeros says
pub lowest_law : (k n : ℕ) → zero < n → n < 2 ^ k → Lowest n (count_trailing_zeros k n)
unfolding count_trailing_zeros bit_at
lowest_law zero n p h = absurd (not-suc-le-zero (subst (λ (x : ℕ). zero < x) (lt-one h) p))
lowest_law (suc k) n p h =
    go (λ e. lowest_law k (n / 2) (omega arith) (let q : 2 ^ suc k ≡ 2 ^ k * 2 = pow-suc 2 k in omega arith)) (n % 2) refl
  where
    low : (t : ℕ) → n % 2 ≡ 0 → Lowest (n / 2) t → (j : ℕ) → j < suc t → bit_at n j ≡ 0
    low t e w zero l = ap (λ (x : ℕ). x % 2) (div-one n) ∙ e
    low t e w (suc j) l = sym (bit_half n j) ∙ w.below j (le_of_suc-le-suc l)

    go : (n % 2 ≡ 0 → Lowest (n / 2) (count_trailing_zeros k (n / 2))) → (d : ℕ) → n % 2 ≡ d → Lowest n (under d (count_trailing_zeros k (n / 2)))
    go ih zero e = record { set = sym (bit_half n (count_trailing_zeros k (n / 2))) ∙ (ih e).set; below = low (count_trailing_zeros k (n / 2)) e (ih e) }
    go ih (suc d) e = record { set = ap (λ (x : ℕ). x % 2) (div-one n) ∙ (let l = mod-lt n (zero-lt-suc 1) in omega arith); below = λ j l. absurd (not-suc-le-zero l) }

-- the highest bit is one number
pub highest_unique : (n r s : ℕ) → Highest n r → Highest n s → r ≡ s
highest_unique n r s x y = le_antisymm (go r s x y (dec_lt s r)) (go s r y x (dec_lt r s))
  where
    go : (a b : ℕ) → Highest n a → Highest n b → Dec (b < a) → a ≤ b
    go a b u v (yes h) = let z = v.above a h in let o = u.set in omega arith
    go a b u v (no g) = omega arith

-- and so is the lowest
pub lowest_unique : (n r s : ℕ) → Lowest n r → Lowest n s → r ≡ s
lowest_unique n r s x y = le_antisymm (go r s x y (dec_lt s r)) (go s r y x (dec_lt r s))
  where
    go : (a b : ℕ) → Lowest n a → Lowest n b → Dec (b < a) → a ≤ b
    go a b u v (yes h) = let z = u.below b h in let o = v.set in omega arith
    go a b u v (no g) = omega arith
