-- The account of a pool moves as the ledger says, when a block is taken or returned, and when a block of items grows or shrinks. Assumes nothing.
use mathlib.Core.Path.{◌≡◌, refl, sym, ap, ◌∙◌}
use mathlib.Core.Bool.{Bool, true, false, cond, ◌&&◌}
use mathlib.Core.Logic.{◌⊎◌, inl, inr}
use mathlib.Core.Option.{none}
use mathlib.Core.List.{List, [], ◌∷◌, ◌++◌}
use Prim.Native.Nat.{ℕ, ◌+◌, ◌-◌, ◌<◌, min}
use native.Mathlib.Decide.{ℕ_discrete}
use native.Mathlib.Omega.{arith}
use borrow.Author.Tests.{eqb-true, ltb-true, leb-true}
use lib.Dec.{eqb, ltb, leb, lit<}
use Rattle.tiers.specs.Tiers.{spacings, spacing_of, section_length}
use Rattle.tiers.proofs.Tiers.{tier_lt}
use Rattle.blocks.specs.declared.Pool.{Pool}
use Rattle.blocks.specs.declared.Block.{Block}
use Rattle.blocks.specs.Blocks.{free_of, less_of, take_of, more_of, give_of}
use Rattle.blocks.specs.Growth.{tier_in, move_of, grow_of, shrink_of}
use Rattle.blocks.proofs.Moves.{either, less_size, less_same, less_other, more_size, more_mark, more_same, more_other, take_pool}
use Rattle.blocks.proofs.Shape.{InShape, take_shape}
use Rattle.blocks.proofs.Settled.{either₂, moved_pool}
use Rattle.rules.specs.Rules.{is_some}
use Rattle.rules.specs.Account.{Kind, Account, set_tier, ask, taking, giving, Move, takes, gives, lowers, supplies, moved, run, allows, steps}
use Rattle.rules.specs.Ledger.{rise, fall}
use Rattle.rules.proofs.Tests.{or_cases}
use Rattle.rules.proofs.Supply.{set_same, set_other}
use Rattle.rules.proofs.Returns.{Place, Fits}
use Rattle.pools.specs.Accounts.{kind_of, account_of, supplied, number_of}
use Rattle.pools.proofs.Rows.{Swaps, rise_ways, fall_ways, take_supplied, up_swaps, down_swaps}

-- ---- one row of moves after another

module _ (K : Kind) where
  -- both are supplied where the first is, and then the second
  pub supplied_append : (ms ns : List Move) (a : Account) → supplied K (ms ++ ns) a ≡ supplied K ms a && supplied K ns (run K ms a)
  unfolding steps run
  supplied_append [] ns a = refl
  supplied_append (m ∷ ms) ns a = go (allows K m a) (supplied_append ms ns (moved K m a))
    where
      go : (b : Bool) → supplied K (ms ++ ns) (moved K m a) ≡ supplied K ms (moved K m a) && supplied K ns (run K ms (moved K m a))
          → is_some (cond b (steps K (ms ++ ns) (moved K m a)) none) ≡ is_some (cond b (steps K ms (moved K m a)) none) && supplied K ns (run K ms (moved K m a))
      go true e = e
      go false e = refl

  -- the number is the second's where the first is supplied
  pub number_append : (ms ns : List Move) (a : Account) → number_of K (ms ++ ns) a ≡ cond (supplied K ms a) (number_of K ns (run K ms a)) 4
  number_append ms ns a = ap (λ (b : Bool). cond b 0 4) (supplied_append ms ns a) ∙ go (supplied K ms a)
    where
      go : (b : Bool) → cond (b && supplied K ns (run K ms a)) 0 4 ≡ cond b (number_of K ns (run K ms a)) 4
      go true = refl
      go false = refl

  -- the blocks that come back in the first find their places
  pub fits_front : (ms ns : List Move) (a : Account) → Fits K (ms ++ ns) a → Fits K ms a
  fits_front [] ns a f = tt
  fits_front (takes t ∷ ms) ns a f = fits_front ms ns (moved K (takes t) a) f
  fits_front (gives t ∷ ms) ns a f = (f.0, fits_front ms ns (moved K (gives t) a) f.1)
  fits_front (lowers t u ∷ ms) ns a f = (f.0, fits_front ms ns (moved K (lowers t u) a) f.1)

  -- and those in the second
  pub fits_back : (ms ns : List Move) (a : Account) → Fits K (ms ++ ns) a → Fits K ns (run K ms a)
  unfolding run
  fits_back [] ns a f = f
  fits_back (takes t ∷ ms) ns a f = fits_back ms ns (moved K (takes t) a) f
  fits_back (gives t ∷ ms) ns a f = fits_back ms ns (moved K (gives t) a) f.1
  fits_back (lowers t u ∷ ms) ns a f = fits_back ms ns (moved K (lowers t u) a) f.1

-- ---- the size of a pool stays

module _ (top : ℕ) (p : Pool) (l : List ℕ) where
  -- when a block is taken
  pub take_size : (t : ℕ) → (take_of p top l t).0.pool.size ≡ p.size
  take_size t = ap (λ (q : Pool). q.size) (take_pool p top l t) ∙ less_size p top t

  -- returned
  pub give_size : (t s : ℕ) → (give_of p top l t s).0.size ≡ p.size
  unfolding give_of
  give_size t s = more_size p top t

  -- when contents move
  pub move_size : (old a b : ℕ) → (move_of p top l old a b).0.pool.size ≡ p.size
  move_size old a b = ap (λ (q : Pool). q.size) (moved_pool p top 0 l old a b) ∙ more_size (less_of p top b) top a ∙ less_size p top b

  abbrev Sized : Block × List ℕ → Type 0
  Sized x = x.0.pool.size ≡ p.size

  -- when a block of items grows
  pub grow_size : (old c : ℕ) → (grow_of p top l old c).0.pool.size ≡ p.size
  unfolding grow_of
  grow_size old c =
      either Sized (eqb c 0) _ _ (λ e. take_size 0)
      (λ e. either Sized (eqb (tier_in top c) (tier_in top (c + 1))) _ _ (λ f. refl) (λ f. move_size old (tier_in top c) (tier_in top (c + 1))))

  -- and shrinks
  pub shrink_size : (old c : ℕ) → (shrink_of p top l old c).0.pool.size ≡ p.size
  unfolding shrink_of
  shrink_size old c =
      either Sized (leb c 1) _ _ (λ e. give_size 0 old)
      (λ e. either Sized (eqb (tier_in top c) (tier_in top (c - 1))) _ _ (λ f. refl) (λ f. move_size old (tier_in top c) (tier_in top (c - 1))))

-- ---- its account moves

-- accounts with the same mark and the same free counts
pub account_same : (a b : Account) → a.mark ≡ b.mark → ((u : ℕ) → a.free u ≡ b.free u) → a ≡ b
account_same a b m f = λ i. record { mark = m i; free = λ u. f u i }

module _ (top : ℕ) (p : Pool) (l : List ℕ) (shape : InShape p top l) where
  -- a block taken from the unused end is all there
  less_issued : (t : ℕ) → supplies (kind_of top p) t (account_of p) ≡ true → (less_of p top t).mark ≡ p.mark + ask (kind_of top p) t (account_of p)
  unfolding less_of supplies
  less_issued t s =
      either₂ (λ (q : Pool) (n : ℕ). q.mark ≡ p.mark + n) (eqb (free_of p t) 0) _ _ _ _
      (λ e. go (eqb-true (free_of p t) 0 e) (or_cases (ltb 0 (free_of p t)) (leb (p.mark + spacing_of (spacings top) t) p.size) s)) (λ e. omega arith)
    where
      go : free_of p t ≡ 0 → (ltb 0 (free_of p t) ≡ true) ⊎ (leb (p.mark + spacing_of (spacings top) t) p.size ≡ true)
          → min p.size (p.mark + spacing_of (spacings top) t) ≡ p.mark + spacing_of (spacings top) t
      go e (inl h) = absurd (omega (arith, ltb-true 0 (free_of p t) h))
      go e (inr h) = omega (arith, leb-true (p.mark + spacing_of (spacings top) t) p.size h)

  -- a block is taken
  pub take_account : (t : ℕ) → t < 7 → supplies (kind_of top p) t (account_of p) ≡ true → account_of (take_of p top l t).0.pool ≡ taking (kind_of top p) t (account_of p)
  unfolding taking
  take_account t h s = rw (take_pool p top l t) (account_same _ _ (less_issued t s) (λ u. go u (ℕ_discrete t u)))
    where
      go : (u : ℕ) → Dec (t ≡ u) → free_of (less_of p top t) u ≡ set_tier (free_of p) t (free_of p t - 1) u
      go u (yes e) = rw (← e) (less_same p top t ∙ sym (set_same (free_of p) t (free_of p t - 1)))
      go u (no e) = less_other p top t u (λ z. e (sym z)) ∙ sym (set_other (free_of p) t u (free_of p t - 1) e)

  -- a block is returned to a section that has room
  pub give_account : (t s : ℕ) → t < 7 → free_of p t < section_length (spacings top) p.size t → account_of (give_of p top l t s).0 ≡ giving t (account_of p)
  unfolding giving give_of
  give_account t s h r = account_same _ _ (more_mark p top t) (λ u. go u (ℕ_discrete t u))
    where
      go : (u : ℕ) → Dec (t ≡ u) → free_of (more_of p top t) u ≡ set_tier (free_of p) t (free_of p t + 1) u
      go u (yes e) = rw (← e) (more_same p top t (omega (arith, shape.tiers)) ∙ (omega arith) ∙ sym (set_same (free_of p) t (free_of p t + 1)))
      go u (no e) = more_other p top t u (λ z. e (sym z)) ∙ sym (set_other (free_of p) t u (free_of p t + 1) e)

module _ (top : ℕ) (p : Pool) (l : List ℕ) (shape : InShape p top l) where
  -- a section in which the ledger has a place has room: as it stands
  pub room_here : (t : ℕ) → Place (kind_of top p) t (account_of p) → free_of p t < section_length (spacings top) p.size t
  room_here t f = f shape.below

  -- and after a block was taken
  pub room_after : (a b : ℕ) → b < 7 → supplies (kind_of top p) b (account_of p) ≡ true → Place (kind_of top p) a (taking (kind_of top p) b (account_of p))
      → free_of (take_of p top l b).0.pool a < section_length (spacings top) (take_of p top l b).0.pool.size a
  room_after a b h s f =
      let g : Place (kind_of top p) a (account_of (take_of p top l b).0.pool) = rw (← take_account top p l shape b h s) at f in
      rw (take_size top p l b) (g (omega (arith, take_size top p l b, (take_shape p top l b shape).below)))

  -- contents move
  pub move_account : (old a b : ℕ) → a < 7 → b < 7 → supplies (kind_of top p) b (account_of p) ≡ true → Place (kind_of top p) a (taking (kind_of top p) b (account_of p))
      → account_of (move_of p top l old a b).0.pool ≡ giving a (taking (kind_of top p) b (account_of p))
  unfolding move_of
  move_account old a b ha hb s f =
      give_account top (take_of p top l b).0.pool (take_of p top l b).1 (take_shape p top l b shape) a old ha (room_after a b hb s f)
      ∙ ap (giving a) (take_account top p l shape b hb s)

  -- the pool after an act, against a row of moves
  abbrev Runs : Block × List ℕ → List Move → Type 0
  Runs x ms = supplied (kind_of top p) ms (account_of p) ≡ true → Fits (kind_of top p) ms (account_of p) → account_of x.0.pool ≡ run (kind_of top p) ms (account_of p)

  move_runs : (old c d : ℕ) (ms : List Move) → Swaps (kind_of top p) (tier_in top c) (tier_in top d) (account_of p) ms → Runs (move_of p top l old (tier_in top c) (tier_in top d)) ms
  move_runs old c d ms w s f =
      move_account old (tier_in top c) (tier_in top d) (tier_lt (spacings top) c (lit< tt)) (tier_lt (spacings top) d (lit< tt)) (sym w.supply ∙ s) (w.place f)
      ∙ sym w.ends

  -- a block of items grows
  pub grow_account : (old c : ℕ) → supplied (kind_of top p) (rise (kind_of top p) c) (account_of p) ≡ true → Fits (kind_of top p) (rise (kind_of top p) c) (account_of p)
      → account_of (grow_of p top l old c).0.pool ≡ run (kind_of top p) (rise (kind_of top p) c) (account_of p)
  unfolding grow_of run moved
  grow_account old c =
      rw (rise_ways top p.size c)
      (either₂ Runs (eqb c 0) _ _ _ _ (λ e s f. take_account top p l shape 0 (lit< tt) (sym (take_supplied (kind_of top p) (account_of p) 0) ∙ s))
      (λ e. either₂ Runs (eqb (tier_in top c) (tier_in top (c + 1))) _ _ _ _ (λ g s f. refl) (λ g. move_runs old c (c + 1) _ (up_swaps (kind_of top p) (account_of p) _ _))))

  -- and shrinks
  pub shrink_account : (old c : ℕ) → 0 < c → supplied (kind_of top p) (fall (kind_of top p) c) (account_of p) ≡ true → Fits (kind_of top p) (fall (kind_of top p) c) (account_of p)
      → account_of (shrink_of p top l old c).0.pool ≡ run (kind_of top p) (fall (kind_of top p) c) (account_of p)
  unfolding shrink_of run moved
  shrink_account old c h =
      rw (fall_ways top p.size c h)
      (either₂ Runs (leb c 1) _ _ _ _ (λ e s f. give_account top p l shape 0 old (lit< tt) (room_here 0 f.0))
      (λ e. either₂ Runs (eqb (tier_in top c) (tier_in top (c - 1))) _ _ _ _ (λ g s f. refl) (λ g. move_runs old c (c - 1) _ (down_swaps (kind_of top p) (account_of p) _ _))))
