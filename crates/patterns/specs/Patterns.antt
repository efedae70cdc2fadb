-- The rule of the three patterns, by covering inside a node (document 01, "Patterns"). Assumes nothing.
use Rattle.std.specs.Prelude.{Bool, ◌&&◌, ℕ, zero, suc, ◌-◌, ◌/◌, ◌%◌, ◌^◌, ltb}
use Rattle.bits.specs.Bits.{word}
use Rattle.places.specs.Places.{level_of, path_of, begins}

-- the path that a row of `level` has at a place: the first `level` of the place's four bits
unfoldable pub lead : ℕ → ℕ → ℕ
lead level place = place / 2 ^ (4 - level)

-- data bit i is an ancestor of that path, or the path itself
unfoldable pub is_ancestor : ℕ → ℕ → ℕ → Bool
unfolding level_of path_of lead
is_ancestor level place i = ltb i 31 && begins (level_of i) (path_of i) level (lead level place)

-- data bit i is a descendant of that path, or the path itself
unfoldable pub is_descendant : ℕ → ℕ → ℕ → Bool
unfolding level_of path_of lead
is_descendant level place i = ltb i 31 && begins level (lead level place) (level_of i) (path_of i)

-- child i, whose path has all five bits, is below that path
unfoldable pub is_child_below : ℕ → ℕ → ℕ → Bool
unfolding lead
is_child_below level place i = begins level (lead level place) 5 i

-- which of the three the k-th entry belongs to
unfoldable pub rule_of : ℕ → ℕ → ℕ → ℕ → Bool
rule_of zero = is_ancestor
rule_of (suc zero) = is_descendant
rule_of (suc (suc s)) = is_child_below

-- entry k of the table: pattern k / 80, level k % 80 / 16, place k % 16
unfoldable pub pattern_at : ℕ → ℕ
pattern_at k = word 32 (rule_of (k / 80) (k % 80 / 16) (k % 16))
