-- Every answer is pinned down: any two outcomes that a call's promise allows are equal. Assumes nothing.
-- An outcome of a lookup is its answer; of a fresh start and of an edit, the answer, the state and the four lists afterwards. How an edit begins
-- is pinned down too.
use mathlib.Core.Path.{◌≡◌, sym, ap, ◌∙◌}
use mathlib.Core.Logic.{inl, inr}
use mathlib.Core.List.{List}
use Prim.Native.Nat.{ℕ}
use native.Mathlib.Omega.{arith}
use Rattle.std.specs.Prelude.{Result, Ok, Err}
use Rattle.refusals.specs.declared.Refusal.{Refusal}
use Rattle.refusals.proofs.Numbers.{number_same, number_some}
use Rattle.store.specs.declared.Cell.{Cell}
use Rattle.walk.specs.declared.Trail.{Trail}
use Rattle.map.specs.declared.State.{State}
use Rattle.map.specs.declared.Answer.{Answer}
use Rattle.map.specs.declared.Edited.{Edited}
use Rattle.map.specs.Memory.{Memory}
use Rattle.map.specs.Fresh.{fresh_of}
use Rattle.map.specs.Lookups.{exact_of, longest_of, shortest_of}
use Rattle.map.specs.Inserts.{insert_of}
use Rattle.map.specs.Removals.{remove_of}
use Rattle.map.specs.Walks.{Begun}

-- a fresh start
pub fresh_pinned : (m : Memory) (n d : ℕ) (x y : Edited × Memory) → x ≡ fresh_of m n d → y ≡ fresh_of m n d → x ≡ y
fresh_pinned m n d x y p q = p ∙ sym q

module _ (s : State) (nodes cells : List ℕ) (key len : ℕ) (x y : Answer) where
  -- the three lookups
  pub exact_pinned : x ≡ exact_of s nodes cells key len → y ≡ exact_of s nodes cells key len → x ≡ y
  exact_pinned p q = p ∙ sym q

  pub longest_pinned : x ≡ longest_of s nodes cells key len → y ≡ longest_of s nodes cells key len → x ≡ y
  longest_pinned p q = p ∙ sym q

  pub shortest_pinned : x ≡ shortest_of s nodes cells key len → y ≡ shortest_of s nodes cells key len → x ≡ y
  shortest_pinned p q = p ∙ sym q

module _ (s : State) (m : Memory) (key len : ℕ) (x y : Edited × Memory) where
  -- the two edits
  pub insert_pinned : (v : Cell) → x ≡ insert_of s m key len v → y ≡ insert_of s m key len v → x ≡ y
  insert_pinned v p q = p ∙ sym q

  pub remove_pinned : x ≡ remove_of s m key len → y ≡ remove_of s m key len → x ≡ y
  remove_pinned p q = p ∙ sym q

module _ (s : State) (m : Memory) (key len : ℕ) where
  -- the trail of an edit, or what refuses it before its own steps
  pub begun_pinned : (x y : Result Trail Refusal) → Begun s m key len x → Begun s m key len y → x ≡ y
  begun_pinned (Ok t) (Ok u) p q = sym p.trail ∙ q.trail
  begun_pinned (Ok t) (Err r) p (inl e) = absurd (omega (arith, number_some r, p.first, e))
  begun_pinned (Ok t) (Err r) p (inr e) = sym p.trail ∙ e.1
  begun_pinned (Err r) (Ok t) (inl e) q = absurd (omega (arith, number_some r, q.first, e))
  begun_pinned (Err r) (Ok t) (inr e) q = sym e.1 ∙ q.trail
  begun_pinned (Err r) (Err n) (inl d) (inl e) = ap Err (number_same r n (sym d ∙ e))
  begun_pinned (Err r) (Err n) (inl d) (inr e) = absurd (omega (arith, number_some r, d, e.0))
  begun_pinned (Err r) (Err n) (inr d) (inl e) = absurd (omega (arith, number_some n, d.0, e))
  begun_pinned (Err r) (Err n) (inr d) (inr e) = sym d.1 ∙ e.1
