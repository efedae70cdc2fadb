-- The last test of a good record, behind the others. Assumes nothing.
use mathlib.Core.Path.{◌≡◌}
use mathlib.Core.List.{List}
use Prim.Native.Nat.{ℕ, ◌+◌, ◌≤◌}
use lib.Dec.{eqb}
use lib.ListN.{get_or}
use borrow.Author.Tests.{le-leb, eq-eqb, ne_eqb}
use Rattle.octets.specs.Octets.{word_in}
use Rattle.records.specs.Records.{good_in}

module _ (s : List ℕ) (at : ℕ) where
  -- another operation has the value 0
  pub good_other : 1 ≤ get_or s at 0 → get_or s at 0 ≤ 5 → get_or s (at + 2) 0 ≡ 0 → get_or s (at + 3) 0 ≡ 0 → (get_or s at 0 ≡ 1 → ⊥) → (w : ℕ) → w ≡ word_in s (at + 8) → eqb w 0 ≡ good_in s at
  unfolding good_in
  good_other l h z y n w e =
      rw (le-leb 1 (get_or s at 0) l, le-leb (get_or s at 0) 5 h, eq-eqb (get_or s (at + 2) 0) 0 z, eq-eqb (get_or s (at + 3) 0) 0 y, ne_eqb (get_or s at 0) 1 n, ← e)
