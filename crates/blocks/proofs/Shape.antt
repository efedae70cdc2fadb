-- The shape of a pool and its free list, which the first step of every call tests, is kept by every take and every return. Assumes nothing.
use mathlib.Core.Path.{◌≡◌, refl, sym, ◌∙◌}
use mathlib.Core.Bool.{Bool, true, false, ◌&&◌}
use mathlib.Core.List.{List}
use Prim.Native.Nat.{ℕ, zero, suc, ◌+◌, ◌-◌, ◌≤◌, ◌<◌}
use native.Mathlib.Nat.{le_trans, not-suc-le-zero, min-le_left}
use native.Mathlib.Decide.{dec_lt}
use native.Mathlib.Omega.{arith}
use borrow.Author.Tests.{leb-true, eqb-true, le-leb, eq-eqb}
use lib.Dec.{leb, eqb, lit<}
use lib.ListN.{length, get_or}
use Rattle.tiers.specs.Tiers.{spacings, section_length, free_list_length, pool_max}
use Rattle.tiers.proofs.Tiers.{tier_lt}
use Rattle.blocks.specs.declared.Pool.{Pool}
use Rattle.blocks.specs.declared.Block.{Block}
use Rattle.blocks.specs.Blocks.{free_of, less_of, take_of, more_of, give_of}
use Rattle.blocks.specs.Growth.{tier_in, move_of, grow_of, shrink_of}
use Rattle.blocks.specs.Shape.{shaped_of, sections_of, sane_of}
use Rattle.blocks.proofs.Ways.{never}
use Rattle.blocks.proofs.Moves.{either, less_size, less_mark, less_tiers, less_le, more_size, more_mark, more_tiers, more_other, more_same, take_pool, take_length, give_length}

-- the size is allowed, the mark within it, each of the seven counts within its section, and the list just as long as its sections
pub record InShape (p : Pool) (top : ℕ) (l : List ℕ) : Type 0 where
  pub some : 1 ≤ p.size
  pub most : p.size ≤ pool_max
  pub below : p.mark ≤ p.size
  pub tiers : length p.free ≡ 7
  pub counts : (t : ℕ) → t < 7 → free_of p t ≤ section_length (spacings top) p.size t
  pub whole : length l ≡ free_list_length (spacings top) p.size

-- two tests that both hold
both : (a b : Bool) → a && b ≡ true → (a ≡ true) × (b ≡ true)
both true b e = (refl, e)
both false b e = absurd (never (sym e))

-- the first n counts
counts_in : (n top size : ℕ) (f : List ℕ) → sections_of n top size f ≡ true → (t : ℕ) → t < n → get_or f t 0 ≤ section_length (spacings top) size t
unfolding sections_of
counts_in zero top size f e t h = absurd (not-suc-le-zero h)
counts_in (suc n) top size f e t h =
    let w = both (leb (get_or f n 0) (section_length (spacings top) size n)) (sections_of n top size f) e in
    go (dec_lt t n) (leb-true _ _ w.0) (counts_in n top size f w.1 t)
  where
    go :
        Dec (t < n) → get_or f n 0 ≤ section_length (spacings top) size n → (t < n → get_or f t 0 ≤ section_length (spacings top) size t)
        → get_or f t 0 ≤ section_length (spacings top) size t
    go (yes k) a b = b k
    go (no k) a b = let z : t ≡ n = omega arith in rw z a

-- and back
counts_out : (n top size : ℕ) (f : List ℕ) → ((t : ℕ) → t < n → get_or f t 0 ≤ section_length (spacings top) size t) → sections_of n top size f ≡ true
unfolding sections_of
counts_out zero top size f h = refl
counts_out (suc n) top size f h = rw (le-leb _ _ (h n (omega arith)), counts_out n top size f (λ t k. h t (omega arith))) refl

-- the two tests of the first step say so
pub in_shape : (p : Pool) (top : ℕ) (l : List ℕ) → shaped_of p top (length l) ≡ true → sane_of p top ≡ true → length p.free ≡ 7 → InShape p top l
unfolding shaped_of sane_of
in_shape p top l s w n =
    let a = both (leb 1 p.size && leb p.size pool_max) _ s in
    let b = both (leb 1 p.size) (leb p.size pool_max) a.0 in
    let c = both (leb p.mark p.size) _ w in
    record {
      some = leb-true _ _ b.0;
      most = leb-true _ _ b.1;
      below = leb-true _ _ c.0;
      tiers = n;
      counts = counts_in 7 top p.size p.free c.1;
      whole = eqb-true _ _ a.1;
    }

-- and the other way round: the first test
pub shaped_again : (p : Pool) (top : ℕ) (l : List ℕ) → InShape p top l → shaped_of p top (length l) ≡ true
unfolding shaped_of
shaped_again p top l i = rw (le-leb _ _ i.some, le-leb _ _ i.most, eq-eqb _ _ i.whole) refl

-- the second
pub sane_again : (p : Pool) (top : ℕ) (l : List ℕ) → InShape p top l → sane_of p top ≡ true
unfolding sane_of
sane_again p top l i = rw (le-leb _ _ i.below, counts_out 7 top p.size p.free i.counts) refl

-- a list of the same length has the same shape
pub shape_list : (p : Pool) (top : ℕ) (l m : List ℕ) → length m ≡ length l → InShape p top l → InShape p top m
shape_list p top l m e i = record { some = i.some; most = i.most; below = i.below; tiers = i.tiers; counts = i.counts; whole = e ∙ i.whole }

module _ (p : Pool) (top : ℕ) (l : List ℕ) (t : ℕ) (i : InShape p top l) where
  -- a count that falls, or a mark that rises, keeps the shape
  pub less_shape : InShape (less_of p top t) top l
  less_shape =
      record {
        some = rw (less_size p top t) i.some;
        most = rw (less_size p top t) i.most;
        below = rw (less_size p top t) (less_mark p top t i.below);
        tiers = less_tiers p top t ∙ i.tiers;
        counts = λ u h. rw (less_size p top t) (le_trans (less_le p top t u) (i.counts u h));
        whole = rw (less_size p top t) i.whole;
      }

  -- so does a take
  pub take_shape : InShape (take_of p top l t).0.pool top (take_of p top l t).1
  take_shape = rw (take_pool p top l t) (shape_list (less_of p top t) top l (take_of p top l t).1 (take_length p top l t) less_shape)

  -- a count that rises keeps it
  pub more_shape : t < 7 → InShape (more_of p top t) top l
  more_shape k =
      record {
        some = rw (more_size p top t) i.some;
        most = rw (more_size p top t) i.most;
        below = rw (more_size p top t, more_mark p top t) i.below;
        tiers = more_tiers p top t ∙ i.tiers;
        counts = λ u h. rw (more_size p top t) (count u h (dec_lt u t) (dec_lt t u));
        whole = rw (more_size p top t) i.whole;
      }
    where
      count : (u : ℕ) → u < 7 → Dec (u < t) → Dec (t < u) → free_of (more_of p top t) u ≤ section_length (spacings top) p.size u
      count u h (yes a) b = rw (more_other p top t u (λ z. omega arith)) (i.counts u h)
      count u h (no a) (yes b) = rw (more_other p top t u (λ z. omega arith)) (i.counts u h)
      count u h (no a) (no b) =
          let z : u ≡ t = omega arith in
          rw (z, more_same p top t (omega (arith, i.tiers))) (min-le_left _ _)

  -- and so does a return
  pub give_shape : (s : ℕ) → t < 7 → InShape (give_of p top l t s).0 top (give_of p top l t s).1
  unfolding give_of
  give_shape s k = shape_list (more_of p top t) top l (give_of p top l t s).1 (give_length p top l t s) (more_shape k)

module _ (p : Pool) (top : ℕ) (l : List ℕ) (old : ℕ) (i : InShape p top l) where
  -- contents that move keep the shape
  pub move_shape : (a b : ℕ) → a < 7 → InShape (move_of p top l old a b).0.pool top (move_of p top l old a b).1
  unfolding move_of
  move_shape a b h = give_shape (take_of p top l b).0.pool top (take_of p top l b).1 a (take_shape p top l b i) old h

  module _ (c : ℕ) where
    abbrev Kept : Block × List ℕ → Type 0
    Kept x = InShape x.0.pool top x.1

    -- growth keeps the shape
    pub grow_shape : InShape (grow_of p top l old c).0.pool top (grow_of p top l old c).1
    unfolding grow_of
    grow_shape =
        either Kept (eqb c 0) _ _ (λ e. take_shape p top l 0 i)
        (λ e. either Kept (eqb (tier_in top c) (tier_in top (c + 1))) _ _ (λ f. i) (λ f. move_shape (tier_in top c) (tier_in top (c + 1)) (tier_lt (spacings top) c (lit< tt))))

    -- and so does shrinkage
    pub shrink_shape : InShape (shrink_of p top l old c).0.pool top (shrink_of p top l old c).1
    unfolding shrink_of
    shrink_shape =
        either Kept (leb c 1) _ _ (λ e. give_shape p top l 0 i old (lit< tt))
        (λ e. either Kept (eqb (tier_in top c) (tier_in top (c - 1))) _ _ (λ f. i) (λ f. move_shape (tier_in top c) (tier_in top (c - 1)) (tier_lt (spacings top) c (lit< tt))))
