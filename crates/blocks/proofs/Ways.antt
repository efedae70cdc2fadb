-- Ways through the definitions over plain variables, for the proofs of the functions: a test that was taken picks its case. Assumes nothing.
use mathlib.Core.Path.{◌≡◌, refl, sym, ◌∙◌}
use mathlib.Core.Bool.{Bool, true, false, cond, ◌&&◌}
use mathlib.Core.List.{List}
use Prim.Native.Nat.{ℕ, zero, suc, ◌+◌, ◌-◌, ◌*◌, ◌/◌, ◌≤◌, ◌<◌}
use native.Mathlib.Nat.{not-suc-le-zero, le-div_iff_mul-le, div-lt_iff_lt-mul}
use Rattle.std.proofs.Common.{add-one}
use native.Mathlib.Decide.{dec_lt}
use native.Mathlib.Omega.{arith}
use borrow.Author.Tests.{ne_eqb, lt-ltb, le-ltb, lt-leb, le-leb, ltb-true, ltb-false}
use lib.Dec.{leb, ltb, eqb}
use lib.ListN.{get_or}
use Rattle.tiers.specs.Tiers.{spacings, spacing_of, section_length}
use Rattle.tiers.proofs.Tiers.{kind_pos, table_entry}
use Rattle.blocks.specs.declared.Pool.{Pool}
use Rattle.blocks.specs.Blocks.{less_of}
use Rattle.blocks.specs.Shape.{sections_of}
use Rattle.blocks.specs.Asks.{ask_found, singles_found, move_found}
use Rattle.blocks.specs.Growth.{move_ask_of}

-- a test has one answer
pub never : true ≡ false → ⊥
never e = let z : ◌≡◌ {A = ℕ} 0 1 = cc in omega arith

and_false : (a : Bool) → a && false ≡ false
and_false true = refl
and_false false = refl

-- one block more than n in a section, by its product with the spacing: it fits the pool where the section has room
pub product_room : (size n s : ℕ) → 0 < s → leb ((n + 1) * s) size ≡ ltb n (size / s)
product_room size n s pos = go (dec_lt n (size / s))
  where
    go : Dec (n < size / s) → leb ((n + 1) * s) size ≡ ltb n (size / s)
    go (yes h) =
        let k : n + 1 ≤ size / s = omega arith in
        let m : (n + 1) * s ≤ size = (le-div_iff_mul-le pos).0 k in
        le-leb _ _ m ∙ sym (lt-ltb _ _ h)
    go (no h) =
        let k : size / s < n + 1 = omega arith in
        let m : size < (n + 1) * s = (div-lt_iff_lt-mul pos).0 k in
        lt-leb _ _ m ∙ sym (le-ltb n (size / s) (omega arith))

-- a move with no spare single
pub no_spare : (p : Pool) (top lim : ℕ) (l : List ℕ) (old a b : ℕ) → move_ask_of p top lim l old a b ≡ move_found p top lim l false old a b
unfolding move_ask_of move_found ask_found
no_spare p top lim l old a b = refl

-- ---- the free counts, tier by tier
module _ (top size : ℕ) (f : List ℕ) (t s : ℕ) (b : Bool) (pos : 0 < top) (e : s ≡ spacing_of (spacings top) t) (g : b ≡ ltb size (get_or f t 0 * s)) where
  some : 0 < s
  some = rw e (kind_pos top t pos)

  -- a count above its section decides
  pub count_over : b ≡ true → sections_of (suc t) top size f ≡ false
  unfolding sections_of section_length
  count_over y =
      let m : size / s < get_or f t 0 = (div-lt_iff_lt-mul some).1 (ltb-true _ _ (sym g ∙ y)) in
      simp (← e, lt-leb _ _ m)

  -- one that isn't leaves it to the tiers below
  pub count_in : b ≡ false → sections_of (suc t) top size f ≡ sections_of t top size f
  unfolding sections_of section_length
  count_in n =
      let m : get_or f t 0 ≤ size / s = (le-div_iff_mul-le some).1 (ltb-false _ _ (sym g ∙ n)) in
      simp (← e, le-leb _ _ m)

module _ (top size : ℕ) (f : List ℕ) where
  -- a section that doesn't hold its count decides
  sections_out : (n t : ℕ) → t < n → sections_of (suc t) top size f ≡ false → sections_of n top size f ≡ false
  unfolding sections_of
  sections_out zero t h e = absurd (not-suc-le-zero h)
  sections_out (suc n) t h e = go (dec_lt t n) (λ k. sections_out n t k e)
    where
      go : Dec (t < n) → (t < n → sections_of n top size f ≡ false) → sections_of (suc n) top size f ≡ false
      go (yes k) r = rw (r k) (and_false _)
      go (no k) r = let q : t ≡ n = omega arith in rw q at e

  module _ (table : List ℕ) (same : table ≡ spacings top) (pos : 0 < top) (t : ℕ) (h : t < 7) (b : Bool) (g : b ≡ ltb size (get_or f t 0 * get_or table t 0)) where
    entry : get_or table t 0 ≡ spacing_of (spacings top) t
    entry = table_entry table (spacings top) t t 0 same refl h

    -- so where the table's entry is tested
    pub sections_over : b ≡ true → sections_of 7 top size f ≡ false
    sections_over y = sections_out 7 t h (count_over top size f t _ b pos entry g y)

    pub sections_in : b ≡ false → sections_of t top size f ≡ true → sections_of (t + 1) top size f ≡ true
    sections_in n v = rw add-one (count_in top size f t _ b pos entry g n ∙ v)

-- ---- a turn of `singles`' loop: x is what the whole loop gives
module _ (top lim : ℕ) (l : List ℕ) (x : ℕ) where
  turn :
      (n i : ℕ) (p : Pool) (sp : Bool) → i < n
      → singles_found (n - i) p top lim l sp ≡ cond (eqb (ask_found p top lim l sp 0) 0) (singles_found (n - (i + 1)) (less_of p top 0) top lim l false) (ask_found p top lim l sp 0)
  unfolding singles_found
  turn n i p sp h =
      let e : n - i ≡ suc (n - (i + 1)) = omega arith in
      rw e refl

  -- a number that isn't 0 decides
  pub singles_stop :
      (n i : ℕ) (p : Pool) (sp : Bool) (a : ℕ) → i < n → a ≡ ask_found p top lim l sp 0 → 0 < a → singles_found (n - i) p top lim l sp ≡ x → a ≡ x
  singles_stop n i p sp a h e z v =
      let k : a ≡ 0 → ⊥ = (λ q. omega arith) in
      sym (turn n i p sp h ∙ simp (← e, ne_eqb a 0 k)) ∙ v

  -- a 0 leaves it to the rest
  pub singles_on :
      (n i : ℕ) (p : Pool) (sp : Bool) (q : Pool) → i < n → 0 ≡ ask_found p top lim l sp 0 → q ≡ less_of p top 0 → singles_found (n - i) p top lim l sp ≡ x
      → singles_found (n - (i + 1)) q top lim l false ≡ x
  singles_on n i p sp q h e g v = rw g (sym (turn n i p sp h ∙ simp (← e)) ∙ v)

  -- and none left: 0
  pub singles_end : (n i : ℕ) (p : Pool) (sp : Bool) → n ≤ i → singles_found (n - i) p top lim l sp ≡ x → 0 ≡ x
  unfolding singles_found
  singles_end n i p sp h v = let e : n - i ≡ 0 = omega arith in rw e at v
