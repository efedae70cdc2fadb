-- Laws of a pool's account: a row of moves, step by step, is refused exactly where the mark at its end is above the size. Assumes nothing.
use mathlib.Core.Path.{◌≡◌, refl, sym, ◌∙◌}
use mathlib.Core.Bool.{Bool, true, false, cond, ◌||◌}
use mathlib.Core.Option.{none, some, none-ne-some, some-injective}
use mathlib.Core.List.{List, [], ◌∷◌, ◌++◌}
use Prim.Native.Nat.{ℕ, zero, suc, ◌+◌, ◌-◌, ◌*◌, ◌≤◌, ◌<◌}
use native.Mathlib.Omega.{arith}
use native.Mathlib.Decide.{ℕ_discrete}
use lib.Dec.{T, leb, ltb, eqb}
use lib.ListN.{length}
use borrow.Author.Tests.{leb-true, leb-false, le-leb, lt-leb, eq-eqb, ne_eqb, lt-ltb}
use Rattle.bits.specs.Bits.{one}
use Rattle.tiers.specs.Tiers.{spacing_of, tier_of}
use Rattle.tiers.proofs.Tiers.{rising}
use Rattle.rules.specs.Account.{Kind, node_pool, cell_pool, tier, spacing, Account, set_tier, taking, giving, Move, takes, gives, lowers, moved, run, supplies, allows, steps}
use Rattle.rules.specs.Ledger.{times}

-- what both kinds of pool have: spacings that rise from 1, and the first tier for a single one
pub record Tiered (K : Kind) : Type 0 where
  pub rises : T (rising 0 K.spacings)
  pub some : 0 < length K.spacings
  pub single : spacing K 0 ≡ 1
  pub first : tier K 1 ≡ 0

-- the node pool has it
pub node_tiered : (N : ℕ) → Tiered (node_pool N)
unfolding spacing_of tier_of
node_tiered N = record { rises = tt; some = omega arith; single = refl; first = refl }

-- and the data pool
pub cell_tiered : (D : ℕ) → Tiered (cell_pool D)
unfolding spacing_of tier_of
cell_tiered D = record { rises = tt; some = omega arith; single = refl; first = refl }

-- the free count that was set
pub set_same : (f : ℕ → ℕ) (t n : ℕ) → set_tier f t n t ≡ n
set_same f t n = rw (eq-eqb t t refl)

-- and any other
pub set_other : (f : ℕ → ℕ) (t u n : ℕ) → (t ≡ u → ⊥) → set_tier f t n u ≡ f u
set_other f t u n h = rw (ne_eqb t u h)

module _ (K : Kind) where
  -- the mark never falls: when a block is taken
  pub taking_mono : (t : ℕ) (a : Account) → a.mark ≤ (taking K t a).mark
  unfolding taking
  taking_mono t a = omega arith

  -- in a move
  pub moved_mono : (m : Move) (a : Account) → a.mark ≤ (moved K m a).mark
  unfolding moved giving
  moved_mono (takes t) a = taking_mono t a
  moved_mono (gives t) a = omega arith
  moved_mono (lowers t u) a = taking_mono u a

  -- in a row of moves
  pub run_mono : (ms : List Move) (a : Account) → a.mark ≤ (run K ms a).mark
  unfolding run
  run_mono [] a = omega arith
  run_mono (m ∷ ms) a = omega (arith, moved_mono m a, run_mono ms (moved K m a))

  -- one row after another
  pub run_append : (ms ns : List Move) (a : Account) → run K (ms ++ ns) a ≡ run K ns (run K ms a)
  unfolding run
  run_append [] ns a = refl
  run_append (m ∷ ms) ns a = run_append ms ns (moved K m a)

  -- a block can be supplied exactly where the mark stays within the size
  pub supplies_mark : (t : ℕ) (a : Account) → a.mark ≤ K.size → supplies K t a ≡ leb (taking K t a).mark K.size
  unfolding supplies taking
  supplies_mark t a h = go (a.free t)
    where
      go : (n : ℕ) → ltb 0 n || leb (a.mark + spacing K t) K.size ≡ leb (a.mark + cond (eqb n 0) (spacing K t) 0) K.size
      go zero = refl
      go (suc n) = rw (lt-ltb 0 (suc n) (omega arith), ne_eqb (suc n) 0 (λ e. omega arith)) (sym (le-leb (a.mark + 0) K.size (omega arith)))

  -- and so a move
  pub allows_mark : (m : Move) (a : Account) → a.mark ≤ K.size → allows K m a ≡ leb (moved K m a).mark K.size
  unfolding allows moved giving
  allows_mark (takes t) a h = supplies_mark t a h
  allows_mark (gives t) a h = sym (le-leb a.mark K.size h)
  allows_mark (lowers t u) a h = supplies_mark u a h

  -- the steps succeed exactly where the mark at the end of the row is within the size
  pub steps_run : (ms : List Move) (a : Account) → a.mark ≤ K.size → steps K ms a ≡ cond (leb (run K ms a).mark K.size) (some (run K ms a)) none
  unfolding steps run
  steps_run [] a h = rw (le-leb a.mark K.size h)
  steps_run (m ∷ ms) a h = rw (allows_mark m a h) (go (leb (moved K m a).mark K.size) refl (steps_run ms (moved K m a)))
    where
      go : (b : Bool) → leb (moved K m a).mark K.size ≡ b
          → ((moved K m a).mark ≤ K.size → steps K ms (moved K m a) ≡ cond (leb (run K ms (moved K m a)).mark K.size) (some (run K ms (moved K m a))) none)
          → cond b (steps K ms (moved K m a)) none ≡ cond (leb (run K ms (moved K m a)).mark K.size) (some (run K ms (moved K m a))) none
      go true e ih = ih (leb-true _ _ e)
      go false e ih =
          rw (lt-leb (run K ms (moved K m a)).mark K.size (omega (arith, leb-false (moved K m a).mark K.size e, run_mono ms (moved K m a))))

  -- what they leave, if they aren't refused
  pub steps_some : (ms : List Move) (a b : Account) → steps K ms a ≡ some b → b ≡ run K ms a
  unfolding steps run
  steps_some [] a b e = sym (some-injective a b e)
  steps_some (m ∷ ms) a b e = go (allows K m a) refl (steps_some ms (moved K m a) b)
    where
      go : (x : Bool) → allows K m a ≡ x → (steps K ms (moved K m a) ≡ some b → b ≡ run K ms (moved K m a)) → b ≡ run K ms (moved K m a)
      go true x ih = ih (rw x at e)
      go false x ih = absurd (none-ne-some b (rw x at e))

  -- ---- singles in a row

  -- n blocks of one tier: those that free ones don't serve come from the end
  pub times_takes : (n t : ℕ) (a : Account) → (run K (times n (takes t)) a).mark ≡ a.mark + (n - a.free t) * spacing K t
  unfolding run moved
  times_takes zero t a = let z : 0 - a.free t ≡ 0 = omega arith in rw z (omega arith)
  times_takes (suc n) t a = times_takes n t (taking K t a) ∙ go (a.free t) refl
    where
      go : (c : ℕ) → a.free t ≡ c → (taking K t a).mark + (n - (taking K t a).free t) * spacing K t ≡ a.mark + (suc n - a.free t) * spacing K t
      go zero e = unfold taking in
          rw (e, eq-eqb t t refl) (let z : n - (0 - 1) ≡ n = omega arith in let w : suc n - 0 ≡ suc n = omega arith in rw (z, w) (omega arith))
      go (suc c) e = unfold taking in
          rw (e, eq-eqb t t refl, ne_eqb (suc c) 0 (λ z. omega arith)) (let w : suc n - suc c ≡ n - (suc c - 1) = omega arith in rw w (omega arith))

  -- n blocks of one tier come back: the mark stays
  pub times_gives_mark : (n t : ℕ) (a : Account) → (run K (times n (gives t)) a).mark ≡ a.mark
  unfolding run moved giving
  times_gives_mark zero t a = refl
  times_gives_mark (suc n) t a = times_gives_mark n t (giving t a)

  -- a return adds one to its tier
  pub giving_free : (t u : ℕ) (a : Account) → (giving t a).free u ≡ a.free u + one (eqb t u)
  unfolding giving
  giving_free t u a = go (ℕ_discrete t u)
    where
      go : Dec (t ≡ u) → set_tier a.free t (a.free t + 1) u ≡ a.free u + one (eqb t u)
      go (yes e) = rw (e, eq-eqb u u refl)
      go (no e) = rw (ne_eqb t u e) (omega arith)

  -- n returns add n
  pub times_gives_free : (n t u : ℕ) (a : Account) → (run K (times n (gives t)) a).free u ≡ a.free u + cond (eqb t u) n 0
  unfolding run moved
  times_gives_free zero t u a = go (eqb t u)
    where
      go : (b : Bool) → a.free u ≡ a.free u + cond b 0 0
      go true = omega arith
      go false = omega arith
  times_gives_free (suc n) t u a = times_gives_free n t u (giving t a) ∙ (rw (giving_free t u a) (go (eqb t u)))
    where
      go : (b : Bool) → a.free u + one b + cond b n 0 ≡ a.free u + cond b (suc n) 0
      go true = omega arith
      go false = omega arith
