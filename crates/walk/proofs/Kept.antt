-- What a match in a node finds: a rule that the node holds, no longer than the query. Assumes nothing.
use mathlib.Core.Path.{◌≡◌, refl, sym, ap, ◌∙◌, subst}
use mathlib.Core.Bool.{true, false}
use Prim.Native.Nat.{ℕ, ◌%◌, ◌≤◌, ◌<◌, zero-le}
use native.Mathlib.Omega.{arith}
use borrow.Author.Tests.{ne_eqb}
use Rattle.bits.specs.Bits.{bit_at, has}
use Rattle.bits.proofs.BitByBit.{bit_above}
use Rattle.tiers.specs.Tiers.{stride}
use Rattle.places.specs.Places.{data_bit, depth_of, length_at}
use Rattle.places.proofs.Prefixes.{data_lt, data_length}
use Rattle.std.specs.Prelude.{Option, Some, None}
use Rattle.node.specs.Matches.{longest_in, shortest_in}
use Rattle.node.proofs.Matches.{Held, Best, Matches, longest_is, shortest_is}

-- data bit b is set in a node at depth d, and stands for a rule of the key, of a length up to len
pub record Kept (bitmap d key len b : ℕ) : Type 0 where
  pub set : has bitmap b ≡ true
  pub bit : b < 31
  pub there : b ≡ data_bit key (length_at d b)
  pub from : d ≤ length_at d b
  pub upto : length_at d b ≤ len

-- 0 has no bit
pub none_zero : (b : ℕ) → has 0 b ≡ false
none_zero b = ne_eqb (bit_at 0 b) 1 (let z = bit_above {n = 0} 0 b (omega arith) zero-le in λ e. omega arith)

-- a bitmap with a bit isn't 0
pub set_some : (bitmap b : ℕ) → has bitmap b ≡ true → bitmap ≡ 0 → ⊥
set_some bitmap b e z =
    let f : has 0 b ≡ true = rw z at e in
    let g = none_zero b in
    let n : ◌≡◌ {A = ℕ} 0 1 = cc in
    omega arith

-- so a match in an empty node finds nothing
match_zero : (R : ℕ → ℕ → Type 0) (P : ℕ → Type 0) (key : ℕ) (f : Option ℕ) → Matches R P 0 key f → f ≡ None
match_zero R P key (Some b) m = absurd (set_some 0 b m.set refl)
match_zero R P key None m = refl

module _ (d key len : ℕ) (from : d ≤ len) where
  -- the longest
  pub longest_zero : longest_in 0 d key len ≡ None
  longest_zero = match_zero (λ l s. l ≤ s) (Held d len) key (longest_in 0 d key len) (longest_is 0 d key len from)

  -- the shortest
  pub shortest_zero : shortest_in 0 d key len ≡ None
  shortest_zero = match_zero (λ l s. s ≤ l) (Held d len) key (shortest_in 0 d key len) (shortest_is 0 d key len from)

module _ (bitmap d key len : ℕ) (stands : d % stride ≡ 0) (from : d ≤ len) where
  -- a best match is kept
  best_kept : (R : ℕ → ℕ → Type 0) (b : ℕ) → Best R (Held d len) bitmap key b → Kept bitmap d key len b
  best_kept R b t =
      let h = t.held in
      let w : depth_of t.size ≡ d = omega arith in
      let k : length_at d b ≡ t.size =
      ap (length_at d) t.there ∙ ap (λ (x : ℕ). length_at x (data_bit key t.size)) (sym w) ∙ data_length key t.size
      in
      record { set = t.set; bit = subst (λ (x : ℕ). x < 31) (sym t.there) (data_lt key t.size); there = t.there ∙ ap (data_bit key) (sym k); from = omega (arith, k, h.from); upto = omega (arith, k, h.within) }

  -- and so is what a match finds
  match_kept : (R : ℕ → ℕ → Type 0) (b : ℕ) (f : Option ℕ) → Matches R (Held d len) bitmap key f → f ≡ Some b → Kept bitmap d key len b
  match_kept R b f m e = best_kept R b (rw e at m)

  -- the longest match
  pub longest_kept : (b : ℕ) → longest_in bitmap d key len ≡ Some b → Kept bitmap d key len b
  longest_kept b e = match_kept (λ l s. l ≤ s) b (longest_in bitmap d key len) (longest_is bitmap d key len from) e

  -- the shortest match
  pub shortest_kept : (b : ℕ) → shortest_in bitmap d key len ≡ Some b → Kept bitmap d key len b
  shortest_kept b e = match_kept (λ l s. s ≤ l) b (shortest_in bitmap d key len) (shortest_is bitmap d key len from) e
