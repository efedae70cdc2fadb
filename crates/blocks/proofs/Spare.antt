-- The numbers on the free list as found are those of the steps one after the other: an insert's missing nodes. Assumes nothing.
use mathlib.Core.Path.{◌≡◌, refl, sym, ap, ◌∙◌}
use mathlib.Core.Bool.{Bool, true, false, cond}
use mathlib.Core.List.{List, [], ◌∷◌}
use Prim.Native.Nat.{ℕ, zero, suc, ◌+◌, ◌-◌, ◌<◌}
use native.Mathlib.Omega.{arith}
use borrow.Author.Tests.{eq-eqb, ne_eqb, eqb-true, eqb-false}
use lib.Dec.{eqb, lit<, lit≤}
use lib.ListN.{get_or}
use Rattle.tiers.specs.Tiers.{spacings, child_spacings, spacing_of, section_length, section_start}
use Rattle.tiers.proofs.Tiers.{tier_first, tier_gt, same_tier}
use Rattle.tiers.proofs.Sections.{start_zero, section_end, entry_lt}
use Rattle.blocks.specs.declared.Pool.{Pool}
use Rattle.blocks.specs.declared.Block.{Block}
use Rattle.blocks.specs.Blocks.{Asked, free_of, section_of, first_out, within_of, ask_of, less_of, take_of, room_of, more_of, give_of}
use Rattle.blocks.specs.Growth.{tier_in, move_ask_of, move_of, grow_ask_of, grow_of, singles_of, chain_ask_of}
use Rattle.blocks.specs.Asks.{ask_found, singles_found}
use Rattle.blocks.proofs.Ways.{never}
use Rattle.blocks.proofs.Moves.{less_size, less_other, less_same, more_other, more_same, take_pool, take_other, take_rest, give_other, give_old, give_first, room_zero}
use Rattle.blocks.proofs.Shape.{InShape, take_shape}
use Rattle.blocks.proofs.Settled.{either₂, move_allowed, grow_pool}

-- the single that is taken first, of the pool p on the list m, against the list l as found: with no spare it is l's, with one it is good
pub record Head (p : Pool) (top lim : ℕ) (l m : List ℕ) (spare : Bool) : Type 0 where
  pub first : spare ≡ false → (free_of p 0 ≡ 0 → ⊥) → first_out m (section_of top p 0) (free_of p 0) ≡ first_out l (section_of top p 0) (free_of p 0)
  pub served : spare ≡ true → (free_of p 0 ≡ 0 → ⊥) × (within_of top lim 0 (first_out m (section_of top p 0) (free_of p 0)) ≡ 0)

-- a list has its own head
pub head_same : (p : Pool) (top lim : ℕ) (l : List ℕ) → Head p top lim l l false
head_same p top lim l = record { first = λ e h. refl; served = λ e. absurd (never (sym e)) }

-- cases that a test picks are equal where the second ones are
pub same_else : (b : Bool) (x y z : ℕ) → (b ≡ false → y ≡ z) → cond b x y ≡ cond b x z
same_else true x y z e = refl
same_else false x y z e = e refl

-- so a single may be taken alike
pub single_same : (p : Pool) (top lim : ℕ) (l m : List ℕ) (spare : Bool) → Head p top lim l m spare → ask_of p top lim m 0 ≡ ask_found p top lim l spare 0
unfolding ask_of ask_found
single_same p top lim l m false a = same_else (eqb (free_of p 0) 0) _ _ _ (λ e. ap (within_of top lim 0) (a.first refl (eqb-false _ 0 e)))
single_same p top lim l m true a = let s = a.served refl in rw (ne_eqb (free_of p 0) 0 s.0, s.1) refl

-- a single that is returned is taken first, and is good
pub head_give :
    (p : Pool) (top lim : ℕ) (l m : List ℕ) (s : ℕ) → InShape p top m → room_of p top lim 0 s ≡ 0
    → (free_of (more_of p top 0) 0 ≡ suc (free_of p 0)) × Head (more_of p top 0) top lim l (give_of p top m 0 s).1 true
unfolding section_start
head_give p top lim l m s i r = (count, record { first = λ e h. absurd (never e); served = λ e. (λ z. omega (arith, count), rw count (rw top_is room.1)) })
  where
    room : (free_of p 0 < section_length (spacings top) p.size 0) × (within_of top lim 0 s ≡ 0)
    room = room_zero p top lim 0 s r

    count : free_of (more_of p top 0) 0 ≡ suc (free_of p 0)
    count = more_same p top 0 (omega (arith, i.tiers)) ∙ (omega (arith, room.0))

    top_is : first_out (give_of p top m 0 s).1 0 (suc (free_of p 0)) ≡ s
    top_is = give_first p top m 0 s (omega (arith, i.whole, entry_lt (spacings top) p.size 0 (free_of p 0) (lit< tt) room.0, start_zero (spacings top) p.size))

-- ---- the singles of the list m, whose section begins at 0, are those of the list l as found but for the one that is taken first
pub record Agree (p : Pool) (top lim : ℕ) (l m : List ℕ) (spare : Bool) : Type 0 where
  pub head : Head p top lim l m spare
  pub below : (i : ℕ) → suc i < free_of p 0 → get_or m (0 + i) 0 ≡ get_or l (0 + i) 0

-- a list agrees with itself
agree_same : (p : Pool) (top lim : ℕ) (l : List ℕ) → Agree p top lim l l false
agree_same p top lim l = record { head = head_same p top lim l; below = λ i h. refl }

-- after a single is taken there is no spare
next : (p : Pool) (top lim : ℕ) (l m : List ℕ) (spare : Bool) → Agree p top lim l m spare → Agree (less_of p top 0) top lim l (take_of p top m 0).1 false
unfolding section_start
next p top lim l m spare a =
    record {
      head = record { first = λ e h. same (free_of (less_of p top 0) 0 - 1) (omega (arith, less_same p top 0)); served = λ e. absurd (never (sym e)) };
      below = λ i h. same i (omega (arith, less_same p top 0));
    }
  where
    same : (i : ℕ) → suc i < free_of p 0 → get_or (take_of p top m 0).1 (0 + i) 0 ≡ get_or l (0 + i) 0
    same i h = take_rest p top m 0 i h ∙ a.below i h

-- n singles, as found and one after the other
pub singles_same : (n : ℕ) (p : Pool) (top lim : ℕ) (l m : List ℕ) (spare : Bool) → Agree p top lim l m spare → singles_of n p top lim m ≡ singles_found n p top lim l spare
unfolding singles_of singles_found
singles_same zero p top lim l m spare a = refl
singles_same (suc n) p top lim l m spare a =
    rw (single_same p top lim l m spare a.head, take_pool p top m 0, singles_same n (less_of p top 0) top lim l (take_of p top m 0).1 false (next p top lim l m spare a))

-- ---- a block grows before the singles are taken

-- a count above 1 has no single
pub tier_pos : (top c : ℕ) → 1 < c → tier_in top c ≡ 0 → ⊥
unfolding spacing_of
tier_pos top c h e = omega (arith, tier_gt child_spacings tt 0 c (lit< tt) h, same_tier 32 top c)

-- a count of 1 has one
pub tier_one : (top : ℕ) → tier_in top 1 ≡ 0
tier_one top = tier_first 1 (2 ∷ 4 ∷ 8 ∷ 16 ∷ 24 ∷ top ∷ []) 1 (lit≤ tt)

module _ (p : Pool) (top lim : ℕ) (l : List ℕ) (old : ℕ) (i : InShape p top l) (b : ℕ) (nb : b ≡ 0 → ⊥) where
  -- a take of another tier keeps the entries of the singles
  low_take : (j : ℕ) → j < section_length (spacings top) p.size 0 → get_or (take_of p top l b).1 (0 + j) 0 ≡ get_or l (0 + j) 0
  low_take j h = take_other p top l b (0 + j) (λ w. omega (arith, w.0, section_end (spacings top) p.size 0 b (omega (arith, nb)), start_zero (spacings top) p.size))

  -- and their count
  low_free : free_of (less_of p top b) 0 ≡ free_of p 0
  low_free = less_other p top b 0 (λ e. nb (sym e))

  low_length : section_length (spacings top) (less_of p top b).size 0 ≡ section_length (spacings top) p.size 0
  low_length = ap (λ (s : ℕ). section_length (spacings top) s 0) (less_size p top b)

  low_shape : InShape (less_of p top b) top (take_of p top l b).1
  low_shape = rw (take_pool p top l b) at (take_shape p top l b i)

  -- the old block goes back to another tier
  move_up : (a : ℕ) → (a ≡ 0 → ⊥) → Agree (more_of (less_of p top b) top a) top lim l (give_of (less_of p top b) top (take_of p top l b).1 a old).1 false
  unfolding section_start
  move_up a na =
      record {
        head = record { first = λ e h. kept (free_of (more_of (less_of p top b) top a) 0 - 1) (omega (arith, free, i.counts 0 (lit< tt))); served = λ e. absurd (never (sym e)) };
        below = λ j h. kept j (omega (arith, free, i.counts 0 (lit< tt)));
      }
    where
      free : free_of (more_of (less_of p top b) top a) 0 ≡ free_of p 0
      free = more_other (less_of p top b) top a 0 (λ e. na (sym e)) ∙ low_free

      kept : (j : ℕ) → j < section_length (spacings top) p.size 0 → get_or (give_of (less_of p top b) top (take_of p top l b).1 a old).1 (0 + j) 0 ≡ get_or l (0 + j) 0
      kept j h =
          give_other (less_of p top b) top (take_of p top l b).1 a old (0 + j)
          (λ v w. omega (arith, v, section_end (spacings top) (less_of p top b).size 0 a (omega (arith, na)), start_zero (spacings top) (less_of p top b).size, low_length))
          ∙ low_take j h

  -- the old block is a single, which serves the next one
  move_single : room_of (less_of p top b) top lim 0 old ≡ 0 → Agree (more_of (less_of p top b) top 0) top lim l (give_of (less_of p top b) top (take_of p top l b).1 0 old).1 true
  unfolding section_start
  move_single r = record { head = given.1; below = λ j h. give_old (less_of p top b) top (take_of p top l b).1 0 old j (omega (arith, given.0)) ∙ low_take j (omega (arith, given.0, low_free, i.counts 0 (lit< tt))) }
    where
      given : (free_of (more_of (less_of p top b) top 0) 0 ≡ suc (free_of (less_of p top b) 0)) × Head (more_of (less_of p top b) top 0) top lim l (give_of (less_of p top b) top (take_of p top l b).1 0 old).1 true
      given = head_give (less_of p top b) top lim l (take_of p top l b).1 old low_shape r

module _ (p : Pool) (top lim : ℕ) (l : List ℕ) (old c : ℕ) (i : InShape p top l) where
  abbrev Good : Asked → Block × List ℕ → Type 0
  Good a x = a.number ≡ 0 → Agree x.0.pool top lim l x.1 (eqb c 1)

  grow_first : c ≡ 0 → Agree (take_of p top l 0).0.pool top lim l (take_of p top l 0).1 (eqb c 1)
  grow_first e =
      let q : eqb c 1 ≡ false = ne_eqb c 1 (λ z. omega arith) in
      rw (take_pool p top l 0, q) (next p top lim l l false (agree_same p top lim l))

  grow_stay : tier_in top c ≡ tier_in top (c + 1) → Agree p top lim l l (eqb c 1)
  grow_stay e =
      let q : eqb c 1 ≡ false = ne_eqb c 1 (λ z. tier_pos top (c + 1) (omega arith) (sym e ∙ ap (tier_in top) z ∙ tier_one top)) in
      rw q (agree_same p top lim l)

  grow_move : (c ≡ 0 → ⊥) → Good (move_ask_of p top lim l old (tier_in top c) (tier_in top (c + 1))) (move_of p top l old (tier_in top c) (tier_in top (c + 1)))
  unfolding move_of give_of
  grow_move nz r = rw (take_pool p top l (tier_in top (c + 1))) (go (eqb c 1) refl)
    where
      nb : tier_in top (c + 1) ≡ 0 → ⊥
      nb = tier_pos top (c + 1) (omega (arith, nz))

      room : room_of (less_of p top (tier_in top (c + 1))) top lim (tier_in top c) old ≡ 0
      room = (move_allowed p top lim l old (tier_in top c) (tier_in top (c + 1)) r).1

      go :
          (t : Bool) → eqb c 1 ≡ t
          → Agree (more_of (less_of p top (tier_in top (c + 1))) top (tier_in top c)) top lim l
          (give_of (less_of p top (tier_in top (c + 1))) top (take_of p top l (tier_in top (c + 1))).1 (tier_in top c) old).1 (eqb c 1)
      go false e = rw e (move_up p top lim l old i (tier_in top (c + 1)) nb (tier_in top c) (tier_pos top c (omega (arith, nz, eqb-false c 1 e))))
      go true e =
          let z : tier_in top c ≡ 0 = ap (tier_in top) (eqb-true c 1 e) ∙ tier_one top in
          rw (e, z) (move_single p top lim l old i (tier_in top (c + 1)) nb (rw z at room))

  -- a growth that is allowed leaves the singles as found, but for the one that it returns
  pub grow_agree : (grow_ask_of p top lim l old c).number ≡ 0 → Agree (grow_of p top l old c).0.pool top lim l (grow_of p top l old c).1 (eqb c 1)
  unfolding grow_ask_of grow_of
  grow_agree =
      either₂ Good (eqb c 0) _ _ _ _ (λ e r. grow_first (eqb-true c 0 e))
      (λ e. either₂ Good (eqb (tier_in top c) (tier_in top (c + 1))) _ _ _ _ (λ f r. grow_stay (eqb-true _ _ f)) (λ f. grow_move (eqb-false c 0 e)))

-- ---- an insert's missing nodes

-- where the growth is allowed, the number is that of the singles, on the list as found, with the growth's own block as a spare
pub chain_go :
    (p : Pool) (top : ℕ) (l : List ℕ) (old c k : ℕ) (q : Pool) (r : ℕ) → InShape p top l → 0 ≡ (grow_ask_of p top p.mark l old c).number
    → q ≡ (grow_ask_of p top p.mark l old c).pool → r ≡ singles_found (k - 1) q top p.mark l (eqb c 1) → r ≡ chain_ask_of p top l old c k
unfolding chain_ask_of
chain_go p top l old c k q r i h e v =
    let n : (grow_ask_of p top p.mark l old c).number ≡ 0 = sym h in
    let t = singles_same (k - 1) (grow_of p top l old c).0.pool top p.mark l (grow_of p top l old c).1 (eqb c 1) (grow_agree p top p.mark l old c i n) in
    rw (eq-eqb _ 0 n, t, ← (grow_pool p top p.mark l old c n), ← e) v
