-- A number names one refusal; an outcome is fixed by its number, and by its value where a clause tells that. Assumes nothing.
use Rattle.std.specs.Prelude.{ℕ, ◌<◌, cond, eqb, Ok, Err, Result, IfOk}
use mathlib.Core.Path.{◌≡◌, refl, sym, ◌∙◌, ap}
use native.Mathlib.Omega.{arith}
use Rattle.refusals.specs.declared.Refusal.{Refusal}
use Rattle.refusals.specs.declared.Refusal.TheVariants.{TooLong, Missing, WrongSlice, NoRoom, Broken}
use Rattle.refusals.specs.Numbers.{number_of, ended}

-- the refusal of a number, where there is one
unfoldable named_by : ℕ → Refusal
named_by n = cond (eqb n 1) TooLong (cond (eqb n 2) Missing (cond (eqb n 3) WrongSlice (cond (eqb n 4) NoRoom Broken)))

named_back : (r : Refusal) → named_by (number_of r) ≡ r
unfolding named_by
named_back TooLong = refl
named_back Missing = refl
named_back WrongSlice = refl
named_back NoRoom = refl
named_back Broken = refl

-- no two refusals have one number
pub number_same : (r s : Refusal) → number_of r ≡ number_of s → r ≡ s
number_same r s e = sym (named_back r) ∙ ap named_by e ∙ named_back s

-- a refusal's number isn't 0
pub number_some : (r : Refusal) → 0 < number_of r
number_some TooLong = omega arith
number_some Missing = omega arith
number_some WrongSlice = omega arith
number_some NoRoom = omega arith
number_some Broken = omega arith

-- an outcome with no value is fixed by its number
pub ended_same : (r s : Result (Unit {0}) Refusal) → ended r ≡ ended s → r ≡ s
ended_same (Ok x) (Ok y) e = refl
ended_same (Ok x) (Err b) e = absurd (omega (arith, number_some b, e))
ended_same (Err a) (Ok y) e = absurd (omega (arith, number_some a, e))
ended_same (Err a) (Err b) e = ap Err (number_same a b e)

-- one with a value is fixed by its number and that value
pub valued_same : {A : Type 0} (r s : Result A Refusal) (x : A) → ended r ≡ ended s → IfOk r (λ p. p ≡ x) → IfOk s (λ p. p ≡ x) → r ≡ s
valued_same (Ok a) (Ok b) x e h k = ap Ok (h ∙ sym k)
valued_same (Ok a) (Err q) x e h k = absurd (omega (arith, number_some q, e))
valued_same (Err p) (Ok b) x e h k = absurd (omega (arith, number_some p, e))
valued_same (Err p) (Err q) x e h k = ap Err (number_same p q e)
