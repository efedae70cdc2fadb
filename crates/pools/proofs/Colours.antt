-- Whose each place is after a take and after a return: the block is painted, and all other places keep their colour. Assumes nothing.
use mathlib.Core.Path.{◌≡◌, refl, sym, ap, ◌∙◌}
use mathlib.Core.Bool.{Bool, true, false, cond, ◌&&◌}
use mathlib.Core.List.{List}
use mathlib.Core.Logic.{◌⊎◌, inl, inr}
use Prim.Native.Nat.{ℕ, zero, suc, ◌+◌, ◌-◌, ◌/◌, ◌≤◌, ◌<◌, min}
use native.Mathlib.Omega.{arith}
use native.Mathlib.Decide.{dec_le, ℕ_discrete}
use native.Mathlib.Nat.{min-eq_right, div-zero}
use borrow.Author.Tests.{leb-true, ltb-true, le-leb, lt-ltb, ne_eqb, eq-eqb}
use lib.Dec.{leb, ltb}
use Rattle.tiers.specs.Tiers.{spacings, section_length}
use Rattle.blocks.specs.declared.Pool.{Pool}
use Rattle.blocks.specs.Blocks.{free_of, less_of, take_of, give_of}
use Rattle.blocks.proofs.Moves.{more_mark}
use Rattle.blocks.proofs.Shape.{take_shape, give_shape}
use Rattle.rules.specs.Account.{supplies}
use Rattle.pools.specs.Sound.{cells_of, FreeAt, Stock, Owner, kept, free, unused, Coloured}
use Rattle.pools.specs.Accounts.{kind_of, account_of}
use Rattle.pools.proofs.Entries.{taken_listed, take_listed, take_apart, take_once, give_listed, give_once}

-- ---- a place has one colour

-- no owner's place is unused
pub kept_unused : (c : Owner) (n : ℕ) → c ≡ kept n → c ≡ unused → ⊥
kept_unused c n a b = let z : ◌≡◌ {A = ℕ} 0 1 = cc in omega arith

-- or a free block's
pub kept_free : (c : Owner) (n t s : ℕ) → c ≡ kept n → c ≡ free t s → ⊥
kept_free c n t s a b = let z : ◌≡◌ {A = ℕ} 0 1 = cc in omega arith

-- no free block's place is unused
pub free_unused : (c : Owner) (t s : ℕ) → c ≡ free t s → c ≡ unused → ⊥
free_unused c t s a b = let z : ◌≡◌ {A = ℕ} 0 1 = cc in omega arith

-- a place has one owner
pub kept_one : (c : Owner) (n m : ℕ) → c ≡ kept n → c ≡ kept m → n ≡ m
kept_one c n m a b = cc

-- and is in one free block
pub free_one : (c : Owner) (t s u r : ℕ) → c ≡ free t s → c ≡ free u r → (t ≡ u) × (s ≡ r)
free_one c t s u r a b = (cc, cc)

-- ---- painting

-- n places from s on get one owner
abbrev pub paint : ℕ → ℕ → Owner → (ℕ → Owner) → ℕ → Owner
paint s n c own i = cond (leb s i && ltb i (s + n)) c (own i)

-- these have it
pub paint_in : (s n : ℕ) (c : Owner) (own : ℕ → Owner) (i : ℕ) → i < n → paint s n c own (s + i) ≡ c
paint_in s n c own i h = rw (le-leb s (s + i) (omega arith), lt-ltb (s + i) (s + n) (omega arith))

-- the others stay
pub paint_off : (s n : ℕ) (c : Owner) (own : ℕ → Owner) (i : ℕ) → (s ≤ i → i < s + n → ⊥) → paint s n c own i ≡ own i
paint_off s n c own i h = go (leb s i) (ltb i (s + n)) refl refl
  where
    go : (a b : Bool) → leb s i ≡ a → ltb i (s + n) ≡ b → cond (a && b) c (own i) ≡ own i
    go false b e f = refl
    go true false e f = refl
    go true true e f = absurd (h (leb-true _ _ e) (ltb-true _ _ f))

-- a place whose colour none of these had is another
pub paint_apart : (s n : ℕ) (c : Owner) (own : ℕ → Owner) (i : ℕ) → ((j : ℕ) → j < n → own (s + j) ≡ own i → ⊥) → paint s n c own i ≡ own i
paint_apart s n c own i h =
    paint_off s n c own i (λ a b. let e : s + (i - s) ≡ i = omega arith in h (i - s) (omega arith) (ap own e))

-- ---- a take from the unused end, and of a free block

module _ (top : ℕ) (p : Pool) (l : List ℕ) (t : ℕ) where
  -- a block with no free one is the next unused room
  pub take_end : free_of p t ≡ 0 → ((take_of p top l t).0.start ≡ p.mark) × ((take_of p top l t).0.pool.mark ≡ min p.size (p.mark + cells_of top t))
  unfolding take_of less_of
  take_end e = rw (eq-eqb (free_of p t) 0 e) (refl, refl)

  -- a free one leaves the mark
  pub take_mark : 0 < free_of p t → (take_of p top l t).0.pool.mark ≡ p.mark
  unfolding take_of less_of
  take_mark h = rw (ne_eqb (free_of p t) 0 (λ e. omega arith)) refl

  -- a block that isn't free is supplied by the unused end
  pub end_holds : free_of p t ≡ 0 → supplies (kind_of top p) t (account_of p) ≡ true → p.mark + cells_of top t ≤ p.size
  unfolding supplies
  end_holds e h = leb-true _ _ (rw e at h)

-- where a section has an entry, its blocks have a cell
pub cells_pos : (top size t : ℕ) → 0 < section_length (spacings top) size t → 0 < cells_of top t
unfolding section_length
cells_pos top size t h = go (cells_of top t) refl
  where
    go : (n : ℕ) → cells_of top t ≡ n → 0 < n
    go zero e = absurd (omega (arith, ap (λ (s : ℕ). size / s) e ∙ div-zero size))
    go (suc n) e = omega arith

module _ (top : ℕ) (p : Pool) (l : List ℕ) (own : ℕ → Owner) (c : Coloured top p l own) where
  -- a free block lies below the mark
  pub free_below : (t s : ℕ) → t < 7 → FreeAt top p l t s → s + cells_of top t ≤ p.mark
  free_below t s h f = go (dec_le (s + cells_of top t) p.mark)
    where
      some : 0 < cells_of top t
      some = cells_pos top p.size t (omega (arith, f.1, c.shape.counts t h))

      go : Dec (s + cells_of top t ≤ p.mark) → s + cells_of top t ≤ p.mark
      go (yes k) = k
      go (no k) =
          absurd (free_unused _ t s (c.freed t s (cells_of top t - 1) h f (omega (arith, some))) (c.fresh (s + (cells_of top t - 1)) (omega (arith, some))))

  -- and so does every place that an owner has
  pub kept_below : (i n : ℕ) → own i ≡ kept n → i < p.mark
  kept_below i n e = go (dec_le p.mark i)
    where
      go : Dec (p.mark ≤ i) → i < p.mark
      go (yes h) = absurd (kept_unused _ n e (c.fresh i h))
      go (no h) = omega arith

  -- such a pool has all that the numbers of an edit need
  pub coloured_stock : Stock top p l p.mark
  coloured_stock = record { shape = c.shape; under = free_below }

  -- a block that is taken was nobody's, lies in the pool, and is its owner's afterwards
  pub take_coloured : (t n : ℕ) → t < 7 → supplies (kind_of top p) t (account_of p) ≡ true
      → Coloured top (take_of p top l t).0.pool (take_of p top l t).1 (paint (take_of p top l t).0.start (cells_of top t) (kept n) own)
      × ((i k : ℕ) → i < cells_of top t → own ((take_of p top l t).0.start + i) ≡ kept k → ⊥)
      × ((take_of p top l t).0.start + cells_of top t ≤ p.size)
  take_coloured t n ht sup = go (ℕ_discrete (free_of p t) 0)
    where
      start : ℕ
      start = (take_of p top l t).0.start

      painted : ℕ → Owner
      painted = paint start (cells_of top t) (kept n) own

      -- it is enough to know the places of the block, and that they are neither a free block's that is left nor past the mark
      whole : ((u s j : ℕ) → u < 7 → FreeAt top (take_of p top l t).0.pool (take_of p top l t).1 u s → j < cells_of top t → own (start + j) ≡ free u s → ⊥)
          → ((i : ℕ) → (take_of p top l t).0.pool.mark ≤ i → (p.mark ≤ i) × (start + cells_of top t ≤ i))
          → Coloured top (take_of p top l t).0.pool (take_of p top l t).1 painted
      whole apart past = record {
        shape = take_shape p top l t c.shape;
        freed = λ u s i hu f hi.
            let e = c.freed u s i hu (take_listed top p l t c.shape ht u s hu f) hi in
            paint_apart start (cells_of top t) (kept n) own (s + i) (λ j hj z. apart u s j hu f hj (z ∙ e)) ∙ e;
        once = take_once top p l t c.shape ht c.once;
        fresh = λ i h. paint_off start (cells_of top t) (kept n) own i (λ a b. omega (arith, (past i h).1)) ∙ c.fresh i (past i h).0;
      }

      go : Dec (free_of p t ≡ 0)
          → Coloured top (take_of p top l t).0.pool (take_of p top l t).1 painted
          × ((i k : ℕ) → i < cells_of top t → own (start + i) ≡ kept k → ⊥) × (start + cells_of top t ≤ p.size)
      go (yes e) =
          let s : start ≡ p.mark = (take_end top p l t e).0 in
          let w = end_holds top p l t e sup in
          let m : (take_of p top l t).0.pool.mark ≡ p.mark + cells_of top t = (take_end top p l t e).1 ∙ min-eq_right w in
          let none : (j : ℕ) → own (start + j) ≡ unused = λ j. c.fresh (start + j) (omega arith) in (
            whole (λ u r j hu f hj z. free_unused _ u r z (none j)) (λ i h. (omega arith, omega arith)),
            λ i k h z. kept_unused _ k z (none i),
            omega arith,
          )
      go (no e) =
          let some : 0 < free_of p t = omega arith in
          let f = taken_listed top p l t c.shape ht some in
          let b = free_below t start ht f in
          let mine : (j : ℕ) → j < cells_of top t → own (start + j) ≡ free t start = λ j h. c.freed t start j ht f h in
          let m = take_mark top p l t some in (
            whole
                (λ u r j hu g hj z. let q = free_one _ t start u r (mine j hj) z in
                take_apart top p l t c.shape ht (c.once t ht) some r (rw (← q.0) at g) (sym q.1))
                (λ i h. (omega arith, omega arith)),
            λ i k h z. kept_free _ k t start z (mine i h),
            omega (arith, c.shape.below),
          )

  -- an owner's block that comes back is a free block afterwards
  pub give_coloured : (t s n : ℕ) → t < 7 → free_of p t < section_length (spacings top) p.size t → ((i : ℕ) → i < cells_of top t → own (s + i) ≡ kept n)
      → Coloured top (give_of p top l t s).0 (give_of p top l t s).1 (paint s (cells_of top t) (free t s) own)
  give_coloured t s n ht room mine = record {
    shape = give_shape p top l t c.shape s ht;
    freed = λ u r i hu f hi. freed u r i hu hi (give_listed top p l t c.shape ht room s u r hu f);
    once = give_once top p l t c.shape ht room c.once s (λ f. kept_free _ n t s (mine 0 some) (c.freed t s 0 ht f some));
    fresh = λ i h. stays i (λ j hj e. kept_unused _ n (mine j hj) (e ∙ unissued i h)) ∙ unissued i h;
  }
    where
      some : 0 < cells_of top t
      some = cells_pos top p.size t (omega arith)

      stays : (i : ℕ) → ((j : ℕ) → j < cells_of top t → own (s + j) ≡ own i → ⊥) → paint s (cells_of top t) (free t s) own i ≡ own i
      stays = paint_apart s (cells_of top t) (free t s) own

      unissued : (i : ℕ) → (give_of p top l t s).0.mark ≤ i → own i ≡ unused
      unissued i h = c.fresh i (unfold give_of in omega (arith, more_mark p top t))

      freed : (u r i : ℕ) → u < 7 → i < cells_of top u → ((u ≡ t) × (r ≡ s)) ⊎ FreeAt top p l u r → paint s (cells_of top t) (free t s) own (r + i) ≡ free u r
      freed u r i hu hi (inl e) = rw (e.0, e.1) (paint_in s (cells_of top t) (free t s) own i (rw e.0 at hi))
      freed u r i hu hi (inr f) =
          let e = c.freed u r i hu f hi in
          stays (r + i) (λ j hj z. kept_free _ n u r (mine j hj) (z ∙ e)) ∙ e
