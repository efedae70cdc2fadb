-- From a sight to an answer: the answer of a rule that was seen, and why its cell may be read. Assumes nothing.
use mathlib.Core.Path.{◌≡◌, sym, subst}
use mathlib.Core.Bool.{Bool, true}
use mathlib.Core.List.{List}
use Prim.Native.Nat.{ℕ, ◌+◌, ◌≤◌, ◌<◌}
use native.Mathlib.Omega.{arith}
use lib.ListN.{length}
use borrow.Author.Tests.{eqb-true}
use Rattle.bits.specs.Bits.{bit_at, count, set_below}
use Rattle.bits.proofs.BitByBit.{bit_above}
use Rattle.prefix.specs.Prefix.{width, masked}
use Rattle.places.proofs.Prefixes.{data_lt}
use Rattle.store.specs.declared.Cell.{Cell}
use Rattle.store.specs.Words.{cell_at}
use Rattle.walk.specs.declared.Sight.{Sight}
use Rattle.walk.specs.declared.Rule.{Rule}
use Rattle.std.specs.Prelude.{Option, Some, None, Result, Ok, Err}
use Rattle.refusals.specs.declared.Refusal.{Refusal}
use Rattle.walk.specs.Steps.{data_within}
use Rattle.walk.specs.Sights.{Told, ToldIf, Seen}
use Rattle.walk.proofs.Within.{cell_below}
use Rattle.walk.proofs.Visits.{visited_le}
use Rattle.map.specs.declared.Answer.TheVariants.{Found}
use Rattle.map.specs.Lookups.{answer_of, told_of}

-- what a sight of a query says holds of the longest length too
pub seen_whole : (key len : ℕ) → len ≤ width → (s : Result Sight Refusal) → Seen key len s → Seen key width s
seen_whole key len h (Err r) w = w
seen_whole key len h (Ok s) w = let v = visited_le len width h in let k = w.0 in (omega arith, told s.rule w.1)
  where
    told : (rule : Option Rule) → ToldIf key len rule → ToldIf key width rule
    told None u = u
    told (Some rule) u = let m = u.upto in record { set = u.set; small = u.small; there = u.there; upto = omega arith }

-- the rule of a sight
pub rule_told : (key : ℕ) (s : Result Sight Refusal) (seen : Sight) (rule : Rule) → s ≡ Ok seen → seen.rule ≡ Some rule → Seen key width s → Told key width rule
rule_told key s seen rule e er h = let w : Seen key width (Ok seen) = rw e at h in rw er at w.1

module _ (key : ℕ) (rule : Rule) (t : Told key width rule) where
  -- its data bit is one that a node has
  pub rule_bit : rule.bit < 31
  rule_bit = subst (λ (x : ℕ). x < 31) (sym t.there) (data_lt key rule.len)

  -- its cell stands within the slice, where its block lies below the mark
  pub rule_cell : (cells : List ℕ) (lim : ℕ) → lim ≤ length cells → data_within lim (count rule.bitmap) rule.cells.0 ≡ true
      → rule.cells.0 + set_below rule.bitmap rule.bit < length cells
  rule_cell cells lim k f =
      let v = rule_bit in
      let p = cell_below lim rule.bitmap rule.cells.0 rule.bit (bit_above 31 31 t.small (omega arith)) f (omega arith) (eqb-true (bit_at rule.bitmap rule.bit) 1 t.set) in
      omega arith

module _ (s : Result Sight Refusal) (cells : List ℕ) (lim key : ℕ) (seen : Sight) (rule : Rule) (e : s ≡ Ok seen) (er : seen.rule ≡ Some rule) where
  -- the rule's block is wholly below the mark: key and value worked out in steps
  pub answer_found :
      (w : Bool) → w ≡ data_within lim (count rule.bitmap) rule.cells.0 → w ≡ true → (k : ℕ) → k ≡ masked key rule.len
      → (i : ℕ) → i ≡ rule.cells.0 + set_below rule.bitmap rule.bit → (c : Cell) → c ≡ cell_at cells i
      → Found k rule.len c.value seen.visits ≡ answer_of s cells lim key
  unfolding answer_of told_of
  answer_found w ew f k ek i ei c ec = rw (e, er, ek, ec, ei) (simp (← ew, f))
