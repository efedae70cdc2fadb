-- A block that moves, grows or shrinks: the free list keeps its length. Assumes nothing.
use mathlib.Core.Path.{◌≡◌, refl, ◌∙◌}
use mathlib.Core.List.{List}
use Prim.Native.Nat.{ℕ, ◌+◌, ◌-◌}
use lib.Dec.{leb, eqb}
use lib.ListN.{length}
use Rattle.blocks.specs.declared.Pool.{Pool}
use Rattle.blocks.specs.declared.Block.{Block}
use Rattle.blocks.specs.Blocks.{take_of}
use Rattle.blocks.specs.Growth.{tier_in, move_of, grow_of, shrink_of}
use Rattle.blocks.proofs.Moves.{either, take_length, give_length}

module _ (p : Pool) (top : ℕ) (l : List ℕ) (old : ℕ) where
  -- contents that move
  pub move_length : (a b : ℕ) → length (move_of p top l old a b).1 ≡ length l
  unfolding move_of
  move_length a b = give_length (take_of p top l b).0.pool top (take_of p top l b).1 a old ∙ take_length p top l b

  -- as long as the list before
  abbrev Same : Block × List ℕ → Type 0
  Same x = length x.1 ≡ length l

  -- one item more
  pub grow_length : (c : ℕ) → length (grow_of p top l old c).1 ≡ length l
  unfolding grow_of
  grow_length c =
      either Same (eqb c 0) _ _ (λ e. take_length p top l 0)
      (λ e. either Same (eqb (tier_in top c) (tier_in top (c + 1))) _ _ (λ f. refl) (λ f. move_length (tier_in top c) (tier_in top (c + 1))))

  -- one item less
  pub shrink_length : (c : ℕ) → length (shrink_of p top l old c).1 ≡ length l
  unfolding shrink_of
  shrink_length c =
      either Same (leb c 1) _ _ (λ e. give_length p top l 0 old)
      (λ e. either Same (eqb (tier_in top c) (tier_in top (c - 1))) _ _ (λ f. refl) (λ f. move_length (tier_in top c) (tier_in top (c - 1))))
