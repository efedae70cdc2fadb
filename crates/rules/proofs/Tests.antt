-- Laws of tests: joined by "and" and "or", and counted. Assumes nothing.
use mathlib.Core.Path.{◌≡◌, refl, sym, ◌∙◌}
use mathlib.Core.Logic.{◌⊎◌, inl, inr}
use mathlib.Core.Bool.{Bool, true, false, ◌||◌, false≢true}
use Prim.Native.Nat.{ℕ, ◌≤◌}
use native.Mathlib.Omega.{arith}
use lib.Dec.{eqb}
use borrow.Author.Tests.{eqb-true, eq-eqb}
use Rattle.bits.specs.Bits.{one}

-- a test doesn't both hold and fail
pub clash : {A : Type 0} (b : Bool) → b ≡ true → b ≡ false → A
clash b p q = absurd (false≢true (sym q ∙ p))

-- tests that hold together are equal
pub agree : (a b : Bool) → (a ≡ true → b ≡ true) → (b ≡ true → a ≡ true) → a ≡ b
agree true b f g = sym (f refl)
agree false true f g = g refl
agree false false f g = refl

-- one of two tests holds
pub or_cases : (a b : Bool) → a || b ≡ true → (a ≡ true) ⊎ (b ≡ true)
or_cases true b e = inl refl
or_cases false b e = inr e

-- the first makes one of them
pub or_left : (a b : Bool) → a ≡ true → a || b ≡ true
or_left a b e = rw e

-- and so does the second
pub or_right : (a b : Bool) → b ≡ true → a || b ≡ true
or_right true b e = refl
or_right false b e = e

-- equality goes both ways
pub eqb_sym : (a b : ℕ) → eqb a b ≡ eqb b a
eqb_sym a b = agree (eqb a b) (eqb b a) (λ e. eq-eqb b a (sym (eqb-true a b e))) (λ e. eq-eqb a b (sym (eqb-true b a e)))

-- a test counts for one at the most
pub one_le : (b : Bool) → one b ≤ 1
one_le true = omega arith
one_le false = omega arith
