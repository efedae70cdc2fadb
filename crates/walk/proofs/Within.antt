-- A block below the mark, over any list of spacings: the quick answer, and where the block's items stand. Assumes nothing.
use mathlib.Core.Path.{◌≡◌, sym}
use mathlib.Core.Bool.{true}
use mathlib.Core.List.{List}
use Prim.Native.Nat.{ℕ, ◌+◌, ◌≤◌, ◌<◌}
use native.Mathlib.Omega.{arith}
use borrow.Author.Tests.{le-leb, leb-true}
use lib.Dec.{T, leb}
use Rattle.bits.specs.Bits.{bit_at, count, set_below}
use Rattle.bits.proofs.Slots.{below_le, below_strict}
use Rattle.tiers.specs.Tiers.{child_top, data_top, child_spacings, data_spacings, spacing_of, tier_of, Smallest}
use Rattle.tiers.proofs.Tiers.{within, spacing_le, child_smallest, data_smallest}
use Rattle.walk.specs.Steps.{block_within, children_within, data_within}

-- no block of nodes, and no block of cells, is wider than the kind's widest
pub children_widest : (t : ℕ) → spacing_of child_spacings t ≤ child_top
children_widest = spacing_le child_top child_spacings tt

pub data_widest : (t : ℕ) → spacing_of data_spacings t ≤ data_top
data_widest = spacing_le data_top data_spacings tt

module _ (spacings : List ℕ) (lim n start : ℕ) where
  -- where the widest block fits, every block does: by a bound of all spacings, or by a test of the list
  pub bound_fits : (b : ℕ) → ((t : ℕ) → spacing_of spacings t ≤ b) → start + b ≤ lim → true ≡ block_within spacings lim n start
  bound_fits b w h = sym (le-leb (start + spacing_of spacings (tier_of spacings n)) lim (omega (arith, w (tier_of spacings n))))

  pub widest_fits : (b : ℕ) → T (within b spacings) → start + b ≤ lim → true ≡ block_within spacings lim n start
  widest_fits b w h = bound_fits b (spacing_le b spacings w) h

  -- the items of a block below the mark stand below it
  pub item_below : Smallest spacings n (tier_of spacings n) → leb (start + spacing_of spacings (tier_of spacings n)) lim ≡ true → (i : ℕ) → i < n → start + i < lim
  item_below m h i k = omega (arith, leb-true (start + spacing_of spacings (tier_of spacings n)) lim h, m.holds)

-- a child stands below the mark
pub child_below_lem : (lim bitmap start b : ℕ) → children_within lim (count bitmap) start ≡ true → b < 32 → bit_at bitmap b ≡ 1 → start + set_below bitmap b < lim
unfolding children_within
child_below_lem lim bitmap start b h k e =
    item_below child_spacings lim (count bitmap) start (child_smallest (count bitmap) (below_le bitmap 32)) h (set_below bitmap b) (below_strict bitmap e k)

-- and so does a rule's cell: a bitmap without bit 31 has at most 31 rules
pub cell_below : (lim bitmap start b : ℕ) → bit_at bitmap 31 ≡ 0 → data_within lim (count bitmap) start ≡ true → b < 32 → bit_at bitmap b ≡ 1 → start + set_below bitmap b < lim
unfolding data_within set_below
cell_below lim bitmap start b z h k e =
    let few : count bitmap ≤ 31 = omega (arith, below_le bitmap 31) in
    item_below data_spacings lim (count bitmap) start (data_smallest (count bitmap) few) h (set_below bitmap b) (below_strict bitmap e k)
