-- What moves cost: the mark and the cells of free blocks, together, change by the blocks that come into use and go out of it. Assumes nothing.
use mathlib.Core.Path.{◌≡◌, refl, ap, ◌∙◌}
use mathlib.Core.Bool.{Bool, true, false, cond}
use mathlib.Core.List.{[], ◌∷◌}
use Prim.Native.Nat.{ℕ, zero, suc, ◌+◌, ◌-◌, ◌*◌, ◌<◌}
use native.Mathlib.Nat.{suc-mul, add-mul, le_antisymm}
use native.Mathlib.Omega.{arith}
use lib.Dec.{ltb}
use lib.ListN.{length}
use borrow.Author.Tests.{ltb-false, eq-eqb, ne_eqb}
use Rattle.tiers.proofs.Tiers.{tier_lt, tier_mono}
use Rattle.rules.specs.Sums.{sum}
use Rattle.rules.specs.Account.{Kind, tier, spacing, Account, set_tier, ask, taking, giving, takes, gives, lowers, moved, run, block_of, free_cells}
use Rattle.rules.specs.Ledger.{rise, fall, times, nodes_come, nodes_go}
use Rattle.rules.proofs.Sums.{sum_at}
use Rattle.rules.proofs.Supply.{Tiered, set_same, set_other, run_append, times_gives_mark}

module _ (K : Kind) where
  -- one free count set
  free_set : (a : Account) (t n : ℕ) → t < length K.spacings
      → sum (length K.spacings) (λ u. set_tier a.free t n u * spacing K u) + a.free t * spacing K t ≡ free_cells K a + n * spacing K t
  unfolding free_cells
  free_set a t n h =
      sum_at (length K.spacings) t (λ u. set_tier a.free t n u * spacing K u) (λ u. a.free u * spacing K u) h
      (λ u m ne. ap (λ (x : ℕ). x * spacing K u) (set_other a.free t u n ne))
      ∙ ap (λ (x : ℕ). sum (length K.spacings) (λ u. a.free u * spacing K u) + x * spacing K t) (set_same a.free t n)

  -- a block taken comes from the free ones or from the end
  pub taking_cost : (t : ℕ) (a : Account) → t < length K.spacings
      → free_cells K a + (taking K t a).mark ≡ free_cells K (taking K t a) + a.mark + spacing K t
  unfolding taking free_cells
  taking_cost t a h = go (a.free t) refl
    where
      S : ℕ
      S = sum (length K.spacings) (λ u. set_tier a.free t (a.free t - 1) u * spacing K u)

      go : (c : ℕ) → a.free t ≡ c → free_cells K a + (a.mark + ask K t a) ≡ S + a.mark + spacing K t
      go zero e =
          let x : a.free t * spacing K t ≡ 0 * spacing K t = ap (λ (x : ℕ). x * spacing K t) e in
          let y : (a.free t - 1) * spacing K t ≡ 0 * spacing K t = ap (λ (x : ℕ). x * spacing K t) (omega arith) in
          let z : ask K t a ≡ spacing K t = rw (eq-eqb (a.free t) 0 e) in
          omega (arith, free_set a t (a.free t - 1) h)
      go (suc c) e =
          let x : a.free t * spacing K t ≡ suc c * spacing K t = ap (λ (x : ℕ). x * spacing K t) e in
          let y : (a.free t - 1) * spacing K t ≡ c * spacing K t = ap (λ (x : ℕ). x * spacing K t) (omega arith) in
          let z : ask K t a ≡ 0 = rw (ne_eqb (a.free t) 0 (λ z. omega arith)) in
          omega (arith, free_set a t (a.free t - 1) h, suc-mul c (spacing K t))

  -- a block returned is free
  pub giving_cost : (t : ℕ) (a : Account) → t < length K.spacings → free_cells K (giving t a) ≡ free_cells K a + spacing K t
  unfolding giving free_cells
  giving_cost t a h = omega (arith, free_set a t (a.free t + 1) h, add-mul (a.free t) 1 (spacing K t))

  -- and leaves the mark
  pub giving_mark : (t : ℕ) (a : Account) → (giving t a).mark ≡ a.mark
  unfolding giving
  giving_mark t a = refl

  module _ (tiered : Tiered K) where
    -- a count has a tier of its kind
    pub a_tier : (c : ℕ) → tier K c < length K.spacings
    a_tier c = tier_lt K.spacings c tiered.some

    -- where a larger count has no higher tier, its block has the same cells
    level : (c : ℕ) → ltb (tier K c) (tier K (suc c)) ≡ false → spacing K (tier K c) ≡ spacing K (tier K (suc c))
    level c e =
        ap (spacing K) (le_antisymm (tier_mono K.spacings tiered.rises c (suc c) (omega arith)) (ltb-false (tier K c) (tier K (suc c)) e))

    -- a count rises: its larger block comes into use, the smaller goes out of it
    pub rise_cost : (c : ℕ) (a : Account)
        → free_cells K a + (run K (rise K c) a).mark + block_of K c ≡ free_cells K (run K (rise K c) a) + a.mark + block_of K (suc c)
    unfolding run rise moved
    rise_cost zero a = omega (arith, taking_cost (tier K 1) a (a_tier 1))
    rise_cost (suc c) a = go (ltb (tier K (suc c)) (tier K (suc (suc c)))) refl
      where
        t : ℕ
        t = tier K (suc c)

        u : ℕ
        u = tier K (suc (suc c))

        go : (x : Bool) → ltb t u ≡ x
            → free_cells K a + (run K (cond x (takes u ∷ gives t ∷ []) []) a).mark + spacing K t
            ≡ free_cells K (run K (cond x (takes u ∷ gives t ∷ []) []) a) + a.mark + spacing K u
        go true e = omega (arith, taking_cost u a (a_tier (suc (suc c))), giving_cost t (taking K u a) (a_tier (suc c)), giving_mark t (taking K u a))
        go false e = omega (arith, level (suc c) e)

    -- a count falls: the other way round
    pub fall_cost : (c : ℕ) (a : Account)
        → free_cells K a + (run K (fall K (suc c)) a).mark + block_of K (suc c) ≡ free_cells K (run K (fall K (suc c)) a) + a.mark + block_of K c
    unfolding run fall moved
    fall_cost zero a = omega (arith, giving_cost (tier K 1) a (a_tier 1), giving_mark (tier K 1) a)
    fall_cost (suc c) a = go (ltb (tier K (suc c)) (tier K (suc (suc c)))) refl
      where
        t : ℕ
        t = tier K (suc c)

        u : ℕ
        u = tier K (suc (suc c))

        go : (x : Bool) → ltb t u ≡ x
            → free_cells K a + (run K (cond x (lowers u t ∷ []) []) a).mark + spacing K u
            ≡ free_cells K (run K (cond x (lowers u t ∷ []) []) a) + a.mark + spacing K t
        go true e = omega (arith, taking_cost t a (a_tier (suc c)), giving_cost u (taking K t a) (a_tier (suc (suc c))), giving_mark u (taking K t a))
        go false e = omega (arith, level (suc c) e)

    -- single blocks taken, and returned
    singles_cost : (n : ℕ) (a : Account) → free_cells K a + (run K (times n (takes 0)) a).mark ≡ free_cells K (run K (times n (takes 0)) a) + a.mark + n
    unfolding run moved
    singles_cost zero a = omega arith
    singles_cost (suc n) a = omega (arith, singles_cost n (taking K 0 a), taking_cost 0 a tiered.some, tiered.single)

    singles_back : (n : ℕ) (a : Account) → free_cells K (run K (times n (gives 0)) a) ≡ free_cells K a + n
    unfolding run moved
    singles_back zero a = omega arith
    singles_back (suc n) a = omega (arith, singles_back n (giving 0 a), giving_cost 0 a tiered.some, tiered.single)

    -- m + 1 nodes come under a node of c children
    pub come_cost : (m c : ℕ) (a : Account)
        → free_cells K a + (run K (nodes_come K (suc m) c) a).mark + block_of K c
        ≡ free_cells K (run K (nodes_come K (suc m) c) a) + a.mark + block_of K (suc c) + m
    unfolding nodes_come
    come_cost m c a = rw (run_append K (rise K c) (times m (takes 0)) a) (omega (arith, rise_cost c a, singles_cost m (run K (rise K c) a)))

    -- m + 1 nodes go from under a node of c + 1 children
    pub go_cost : (m c : ℕ) (a : Account)
        → free_cells K a + (run K (nodes_go K (suc m) (suc c)) a).mark + block_of K (suc c) + m
        ≡ free_cells K (run K (nodes_go K (suc m) (suc c)) a) + a.mark + block_of K c
    unfolding nodes_go
    go_cost m c a =
        let b : Account = run K (times m (gives 0)) a in
        rw (run_append K (times m (gives 0)) (fall K (suc c)) a) (omega (arith, fall_cost c b, singles_back m a, times_gives_mark K m 0 a))
