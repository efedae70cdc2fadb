-- The ledger's rows of moves for a count that rises or falls, by the tests that a pool makes. Assumes nothing.
use mathlib.Core.Path.{◌≡◌, refl}
use mathlib.Core.Bool.{Bool, true, false, cond}
use mathlib.Core.Option.{some, none}
use mathlib.Core.List.{List, [], ◌∷◌}
use Prim.Native.Nat.{ℕ, zero, suc, ◌+◌, ◌-◌, ◌≤◌, ◌<◌}
use native.Mathlib.Nat.{not-suc-le-zero}
use native.Mathlib.Omega.{arith}
use native.Mathlib.Numerals.{add-one}
use borrow.Author.Tests.{eqb-true, eqb-false, lt-ltb, le-ltb, lt-leb, ne_eqb}
use lib.Dec.{eqb, ltb, leb}
use Rattle.tiers.specs.Tiers.{spacings, child_spacings}
use Rattle.tiers.proofs.Tiers.{tier_mono, same_tier}
use Rattle.blocks.specs.Growth.{tier_in}
use Rattle.blocks.proofs.Spare.{tier_one}
use Rattle.rules.specs.Rules.{is_some}
use Rattle.rules.specs.Account.{Kind, Account, Move, takes, gives, lowers, taking, giving, supplies, moved, run, allows, steps}
use Rattle.rules.specs.Ledger.{rise, fall}
use Rattle.rules.proofs.Tests.{eqb_sym}
use Rattle.rules.proofs.Returns.{Place, Fits}
use Rattle.pools.specs.Accounts.{supplied}

-- a larger count has no lower tier
tier_up : (top c d : ℕ) → c ≤ d → tier_in top c ≤ tier_in top d
tier_up top c d h = omega (arith, tier_mono child_spacings tt c d h, same_tier 32 top c, same_tier 32 top d)

-- so tiers that differ rise
apart : (t u : ℕ) (x y : List Move) → t ≤ u → cond (ltb t u) x y ≡ cond (eqb t u) y x
apart t u x y h = go (eqb t u) refl
  where
    go : (b : Bool) → eqb t u ≡ b → cond (ltb t u) x y ≡ cond b y x
    go true e = rw (le-ltb t u (omega (arith, eqb-true t u e)))
    go false e = rw (lt-ltb t u (omega (arith, eqb-false t u e)))

module _ (top size : ℕ) where
  abbrev K : Kind
  K = record { spacings = spacings top; size = size }

  -- a count rises: a first block, no move where its tier stays, else a move to the next tier
  pub rise_ways : (c : ℕ) → rise K c
      ≡ cond (eqb c 0) (takes 0 ∷ []) (cond (eqb (tier_in top c) (tier_in top (c + 1))) [] (takes (tier_in top (c + 1)) ∷ gives (tier_in top c) ∷ []))
  unfolding rise
  rise_ways zero = rw (tier_one top)
  rise_ways (suc c) = rw (ne_eqb (suc c) 0 (λ e. omega arith), add-one (suc c)) (apart (tier_in top (suc c)) (tier_in top (suc (suc c))) _ [] (tier_up top (suc c) (suc (suc c)) (omega arith)))

  -- a count falls: the last block is returned, no move where its tier stays, else the contents go down
  pub fall_ways : (c : ℕ) → 0 < c → fall K c
      ≡ cond (leb c 1) (gives 0 ∷ []) (cond (eqb (tier_in top c) (tier_in top (c - 1))) [] (lowers (tier_in top c) (tier_in top (c - 1)) ∷ []))
  unfolding fall
  fall_ways zero h = absurd (not-suc-le-zero h)
  fall_ways (suc zero) h = rw (tier_one top)
  fall_ways (suc (suc c)) h =
      let e : suc (suc c) - 1 ≡ suc c = omega arith in
      rw (lt-leb (suc (suc c)) 1 (omega arith), e, eqb_sym (tier_in top (suc (suc c))) (tier_in top (suc c)))
      (apart (tier_in top (suc c)) (tier_in top (suc (suc c))) _ [] (tier_up top (suc c) (suc (suc c)) (omega arith)))

-- what is there where a test holds
some_if : (b : Bool) (a : Account) → is_some (cond b (some a) none) ≡ b
some_if true a = refl
some_if false a = refl

-- a row that takes a block of tier b and then returns one of tier a, on the account x
pub record Swaps (K : Kind) (a b : ℕ) (x : Account) (ms : List Move) : Type 0 where
  pub supply : supplied K ms x ≡ supplies K b x
  pub ends : run K ms x ≡ giving a (taking K b x)
  pub place : Fits K ms x → Place K a (taking K b x)

module _ (K : Kind) (x : Account) where
  -- one block taken is supplied where the account supplies it
  pub take_supplied : (t : ℕ) → supplied K (takes t ∷ []) x ≡ supplies K t x
  unfolding steps allows
  take_supplied t = some_if (supplies K t x) (moved K (takes t) x)

  -- contents that go up make such a row
  pub up_swaps : (a b : ℕ) → Swaps K a b x (takes b ∷ gives a ∷ [])
  unfolding steps allows run moved
  up_swaps a b = record { supply = some_if (supplies K b x) (giving a (taking K b x)); ends = refl; place = λ f. f.0 }

  -- and contents that go down
  pub down_swaps : (a b : ℕ) → Swaps K a b x (lowers a b ∷ [])
  unfolding steps allows run moved
  down_swaps a b = record { supply = some_if (supplies K b x) (giving a (taking K b x)); ends = refl; place = λ f. f.0 }
