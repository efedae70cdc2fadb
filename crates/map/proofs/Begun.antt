-- The state that a call begins with or leaves. Assumes nothing.
use mathlib.Core.Path.{◌≡◌, refl}
use Prim.Native.Nat.{ℕ}
use Rattle.blocks.specs.declared.Pool.{Pool}
use Rattle.map.specs.Memory.{state_as}

-- a state, worked out pool by pool
pub state_as_lem : (p q p₁ q₁ : Pool) (rules : ℕ) → p ≡ p₁ → q ≡ q₁ → state_as p q rules ≡ state_as p₁ q₁ rules
state_as_lem p q p₁ q₁ rules e f = rw (e, f) refl
