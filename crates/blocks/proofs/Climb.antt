-- The numbers on the free list as found are those of the steps one after the other: a removal's way up, which returns singles and
-- then shrinks one block. Assumes nothing.
use mathlib.Core.Path.{◌≡◌, refl, sym, ap, ◌∙◌}
use mathlib.Core.Bool.{Bool, true, false, cond, ◌&&◌}
use mathlib.Core.List.{List}
use Prim.Native.Nat.{ℕ, zero, suc, ◌+◌, ◌-◌, ◌≤◌}
use native.Mathlib.Omega.{arith}
use borrow.Author.Tests.{le-leb, ne_eqb}
use lib.Dec.{eqb, lit<}
use Rattle.tiers.specs.Tiers.{spacings}
use Rattle.tiers.proofs.Sections.{start_zero, section_end}
use Rattle.blocks.specs.declared.Pool.{Pool}
use Rattle.blocks.specs.Blocks.{Asked, free_of, section_of, first_out, within_of, ask_of, room_of, more_of, give_of}
use Rattle.blocks.specs.Growth.{tier_in, move_ask_of, shrink_ask_of, shrink_of}
use Rattle.blocks.specs.Asks.{ask_found, move_found, shrink_found}
use Rattle.blocks.proofs.Moves.{more_other, give_other, room_zero}
use Rattle.blocks.proofs.Shape.{InShape, give_shape}
use Rattle.blocks.proofs.Settled.{shrink_pool}
use Rattle.blocks.proofs.Spare.{Head, head_same, single_same, head_give, same_else}

-- of every tier the block that is taken first, of the pool p on the list m, is that of the list l as found, but for a spare single
pub record Like (p : Pool) (top lim : ℕ) (l m : List ℕ) (spare : Bool) : Type 0 where
  pub head : Head p top lim l m spare
  pub others : (t : ℕ) → (t ≡ 0 → ⊥) → first_out m (section_of top p t) (free_of p t) ≡ first_out l (section_of top p t) (free_of p t)

-- a list is like itself
pub like_same : (p : Pool) (top lim : ℕ) (l : List ℕ) → Like p top lim l l false
like_same p top lim l = record { head = head_same p top lim l; others = λ t h. refl }

-- a spare single serves no other tier
not_spare : (b : Bool) (t x : ℕ) → (t ≡ 0 → ⊥) → cond (b && eqb t 0) 0 x ≡ x
not_spare true t x h = rw (ne_eqb t 0 h) refl
not_spare false t x h = refl

module _ (p : Pool) (top lim : ℕ) (l m : List ℕ) (spare : Bool) (k : Like p top lim l m spare) where
  -- a take's number
  pub ask_same : (t : ℕ) → ask_of p top lim m t ≡ ask_found p top lim l spare t
  unfolding ask_of ask_found
  ask_same zero = single_same p top lim l m spare k.head
  ask_same (suc t) =
      let n : suc t ≡ 0 → ⊥ = (λ e. omega arith) in
      same_else (eqb (free_of p (suc t)) 0) _ _ _ (λ e. ap (within_of top lim (suc t)) (k.others (suc t) n)) ∙ sym (not_spare spare (suc t) _ n)

  -- a move's number
  pub move_same : (old a b : ℕ) → move_ask_of p top lim m old a b ≡ move_found p top lim l spare old a b
  unfolding move_ask_of move_found
  move_same old a b = rw (ask_same b) refl

  -- a shrinkage's number
  pub shrink_same : (old c : ℕ) → shrink_ask_of p top lim m old c ≡ shrink_found p top lim l spare old c
  unfolding shrink_ask_of shrink_found
  shrink_same old c = rw (move_same old (tier_in top c) (tier_in top (c - 1))) refl

  -- a single that is returned is the spare one from then on
  pub like_give : InShape p top m → (s : ℕ) → room_of p top lim 0 s ≡ 0 → Like (give_of p top m 0 s).0 top lim l (give_of p top m 0 s).1 true
  unfolding give_of more_of
  like_give i s r = record { head = (head_give p top lim l m s i r).1; others = others }
    where
      others : (t : ℕ) → (t ≡ 0 → ⊥) → first_out (give_of p top m 0 s).1 (section_of top (more_of p top 0) t) (free_of (more_of p top 0) t) ≡ first_out l (section_of top (more_of p top 0) t) (free_of (more_of p top 0) t)
      others t n =
          rw (more_other p top 0 t n)
          (give_other p top m 0 s (section_of top p t + (free_of p t - 1))
          (λ a b. omega (arith, b, (room_zero p top lim 0 s r).0, section_end (spacings top) p.size 0 t (omega (arith, n)), start_zero (spacings top) p.size))
          ∙ k.others t n)

-- a pool and its list after any number of singles, returned one after the other, each allowed; the Bool says whether there was one
pub data Climbed (top lim : ℕ) (l : List ℕ) : Pool → List ℕ → Bool → Type 0 where
  found : {p : Pool} → InShape p top l → Climbed top lim l p l false
  back : {p : Pool} {m : List ℕ} {spare : Bool} → Climbed top lim l p m spare → (s : ℕ) → room_of p top lim 0 s ≡ 0 → Climbed top lim l (give_of p top m 0 s).0 (give_of p top m 0 s).1 true

module _ (top lim : ℕ) (l : List ℕ) where
  -- the shape holds all the way
  pub climbed_shape : {p : Pool} {m : List ℕ} {spare : Bool} → Climbed top lim l p m spare → InShape p top m
  climbed_shape (found i) = i
  climbed_shape (back {p} {m} c s r) = give_shape p top m 0 (climbed_shape c) s (lit< tt)

  -- and the blocks that are taken first are those of the list as found
  pub climbed_like : {p : Pool} {m : List ℕ} {spare : Bool} → Climbed top lim l p m spare → Like p top lim l m spare
  climbed_like {p} (found i) = like_same p top lim l
  climbed_like (back {p} {m} {spare} c s r) = like_give p top lim l m spare (climbed_like c) (climbed_shape c) s r

  -- so the next step's number is that on the list as found
  pub climbed_shrink : {p : Pool} {m : List ℕ} {spare : Bool} → Climbed top lim l p m spare → (old c : ℕ) → shrink_ask_of p top lim m old c ≡ shrink_found p top lim l spare old c
  climbed_shrink {p} {m} {spare} d old c = shrink_same p top lim l m spare (climbed_like d) old c

  -- where it is 0, the pool that it hands back is the one after the step
  pub climbed_pool :
      {p : Pool} {m : List ℕ} {spare : Bool} → Climbed top lim l p m spare → (old c : ℕ) → (shrink_found p top lim l spare old c).number ≡ 0
      → (shrink_found p top lim l spare old c).pool ≡ (shrink_of p top m old c).0.pool
  climbed_pool {p} {m} {spare} d old c e =
      let q = climbed_shrink d old c in
      rw (← q) (shrink_pool p top lim m old c (ap (λ (a : Asked). a.number) q ∙ e))

  -- and a step that returns the last item's block goes one further up
  pub climbed_back :
      {p : Pool} {m : List ℕ} {spare : Bool} → Climbed top lim l p m spare → (old c : ℕ) → c ≤ 1 → (shrink_found p top lim l spare old c).number ≡ 0
      → Climbed top lim l (shrink_of p top m old c).0.pool (shrink_of p top m old c).1 true
  unfolding shrink_of shrink_found
  climbed_back d old c h e = rw (le-leb c 1 h) (back d old (rw (le-leb c 1 h) at e))
