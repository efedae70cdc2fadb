-- The bit with a number: one outcome. Assumes nothing.
use Rattle.std.specs.Prelude.{ℕ, ◌<◌, ◌≤◌, Option, Some, None, MatchOption}
use mathlib.Core.Path.{◌≡◌, refl, sym, ◌∙◌, ap}
use native.Mathlib.Omega.{arith}

-- any two that `Bit::new` may give are equal
pub new_same : (n : ℕ) (r s : Option ℕ) → MatchOption r (32 ≤ n) (λ b. (b ≡ n) × (n < 32)) → MatchOption s (32 ≤ n) (λ b. (b ≡ n) × (n < 32)) → r ≡ s
new_same n (Some a) (Some b) p q = ap Some (p.0 ∙ sym q.0)
new_same n (Some a) None p q = let h = p.1 in absurd (omega arith)
new_same n None (Some b) p q = let h = q.1 in absurd (omega arith)
new_same n None None p q = refl
