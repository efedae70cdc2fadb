-- Where an ask gives 0, the pool that it hands back is the one after the act. Assumes nothing.
use mathlib.Core.Path.{◌≡◌, refl, sym, ap}
use mathlib.Core.Bool.{Bool, true, false, cond}
use mathlib.Core.List.{List}
use Prim.Native.Nat.{ℕ, ◌+◌, ◌-◌}
use borrow.Author.Tests.{eqb-true, eqb-false}
use lib.Dec.{leb, eqb}
use Rattle.blocks.specs.declared.Pool.{Pool}
use Rattle.blocks.specs.declared.Block.{Block}
use Rattle.blocks.specs.Blocks.{Asked, ask_of, less_of, room_of, more_of, give_of, asked_as}
use Rattle.blocks.specs.Growth.{tier_in, move_ask_of, move_of, grow_ask_of, grow_of, shrink_ask_of, shrink_of}
use Rattle.blocks.proofs.Moves.{take_pool}

-- one test picks a case of an ask and of its act: what holds of both pairs holds of the picked one
pub either₂ :
    {A B : Type 0} (R : A → B → Type 0) (b : Bool) (x x' : A) (y y' : B) → (b ≡ true → R x y) → (b ≡ false → R x' y') → R (cond b x x') (cond b y y')
either₂ R true x x' y y' f g = f refl
either₂ R false x x' y y' f g = g refl

module _ (p : Pool) (top lim : ℕ) (l : List ℕ) (old : ℕ) where
  -- a move that is allowed: the take is, then the return
  pub move_allowed : (a b : ℕ) → (move_ask_of p top lim l old a b).number ≡ 0 → (ask_of p top lim l b ≡ 0) × (room_of (less_of p top b) top lim a old ≡ 0)
  unfolding move_ask_of
  move_allowed a b e = go (eqb (ask_of p top lim l b) 0) refl e
    where
      go :
          (t : Bool) → eqb (ask_of p top lim l b) 0 ≡ t
          → (cond t (asked_as (room_of (less_of p top b) top lim a old) (more_of (less_of p top b) top a)) (asked_as (ask_of p top lim l b) p)).number ≡ 0
          → (ask_of p top lim l b ≡ 0) × (room_of (less_of p top b) top lim a old ≡ 0)
      go true q r = (eqb-true _ 0 q, r)
      go false q r = absurd (eqb-false _ 0 q r)

  -- what a move leaves of the pool
  pub moved_pool : (a b : ℕ) → (move_of p top l old a b).0.pool ≡ more_of (less_of p top b) top a
  unfolding move_of give_of
  moved_pool a b = ap (λ (q : Pool). more_of q top a) (take_pool p top l b)

  abbrev Meet : Asked → Block × List ℕ → Type 0
  Meet a x = a.number ≡ 0 → a.pool ≡ x.0.pool

  -- contents that move
  pub move_pool : (a b : ℕ) → Meet (move_ask_of p top lim l old a b) (move_of p top l old a b)
  unfolding move_ask_of
  move_pool a b = go (eqb (ask_of p top lim l b) 0) refl
    where
      go :
          (t : Bool) → eqb (ask_of p top lim l b) 0 ≡ t
          → Meet (cond t (asked_as (room_of (less_of p top b) top lim a old) (more_of (less_of p top b) top a)) (asked_as (ask_of p top lim l b) p)) (move_of p top l old a b)
      go true q r = sym (moved_pool a b)
      go false q r = absurd (eqb-false _ 0 q r)

  -- one item more
  pub grow_pool : (c : ℕ) → (grow_ask_of p top lim l old c).number ≡ 0 → (grow_ask_of p top lim l old c).pool ≡ (grow_of p top l old c).0.pool
  unfolding grow_ask_of grow_of
  grow_pool c =
      either₂ Meet (eqb c 0) _ _ _ _ (λ e r. sym (take_pool p top l 0))
      (λ e. either₂ Meet (eqb (tier_in top c) (tier_in top (c + 1))) _ _ _ _ (λ f r. refl) (λ f. move_pool (tier_in top c) (tier_in top (c + 1))))

  -- one item less
  pub shrink_pool : (c : ℕ) → (shrink_ask_of p top lim l old c).number ≡ 0 → (shrink_ask_of p top lim l old c).pool ≡ (shrink_of p top l old c).0.pool
  unfolding shrink_ask_of shrink_of give_of
  shrink_pool c =
      either₂ Meet (leb c 1) _ _ _ _ (λ e r. refl)
      (λ e. either₂ Meet (eqb (tier_in top c) (tier_in top (c - 1))) _ _ _ _ (λ f r. refl) (λ f. move_pool (tier_in top c) (tier_in top (c - 1))))
