-- Tests one after another, over plain Bools: which one fails, and the number that the first tests then give. Assumes nothing.
use mathlib.Core.Path.{◌≡◌, refl, sym}
use mathlib.Core.Bool.{Bool, true, false, ◌&&◌, cond}
use mathlib.Core.Logic.{◌⊎◌, inl, inr}
use Prim.Native.Nat.{ℕ}
use native.Mathlib.Omega.{arith}
use Rattle.blocks.proofs.Ways.{never}

-- two tests that both hold
pub both_hold : (a b : Bool) → a ≡ true → b ≡ true → a && b ≡ true
both_hold a b e f = simp (e, f)

-- where two tests hold, each does
pub both : (a b : Bool) → a && b ≡ true → (a ≡ true) × (b ≡ true)
both true b e = (refl, e)
both false b e = absurd (never (sym e))

-- ---- the number of the first tests: slices and sizes, the length, marks and counts

-- 3 before 1, 1 before 5
abbrev pub number_of : Bool → Bool → Bool → ℕ
number_of shape short sane = cond shape (cond short (cond sane 0 5) 1) 3

module _ (a b c : Bool) where
  -- the slices decide first
  pub gives_3 : a ≡ false → 3 ≡ number_of a b c
  gives_3 e = simp e

  -- then the length
  pub gives_1 : a ≡ true → b ≡ false → 1 ≡ number_of a b c
  gives_1 e f = simp (e, f)

  -- nothing is wrong
  pub gives_0 : a ≡ true → b ≡ true → c ≡ true → 0 ≡ number_of a b c
  gives_0 e f g = simp (e, f, g)

-- no other number is given
pub four_numbers : (a b c : Bool) → (number_of a b c ≡ 0) ⊎ ((number_of a b c ≡ 1) ⊎ ((number_of a b c ≡ 3) ⊎ (number_of a b c ≡ 5)))
four_numbers false b c = inr (inr (inl refl))
four_numbers true false c = inr (inl refl)
four_numbers true true false = inr (inr (inr refl))
four_numbers true true true = inl refl

-- 0 says that all three hold
pub zero_number : (a b c : Bool) → number_of a b c ≡ 0 → (a ≡ true) × (b ≡ true) × (c ≡ true)
zero_number false b c e = absurd (omega arith)
zero_number true false c e = absurd (omega arith)
zero_number true true false e = absurd (omega arith)
zero_number true true true e = (refl, refl, refl)
