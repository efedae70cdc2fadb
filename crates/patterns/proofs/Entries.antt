-- The rule of the table of patterns: tested once at all 240 entries, and carried to one of them. Assumes nothing.
use mathlib.Core.Path.{◌≡◌, ap, ◌∙◌}
use mathlib.Core.Bool.{Bool}
use mathlib.Core.List.{List, [], ◌∷◌}
use Prim.Native.Nat.{ℕ, ◌+◌, ◌*◌, ◌/◌, ◌%◌, ◌<◌}
use native.Mathlib.Omega.{arith}
use lib.Dec.{T, eqb, eqb→eq}
use lib.ListN.{length, get_or}
use Rattle.bits.specs.Bits.{word}
use Rattle.bits.proofs.Table.{every, at}
use Rattle.places.specs.Places.{level_of, path_of}
use Rattle.patterns.specs.Patterns.{lead, is_ancestor, is_descendant, is_child_below, rule_of, pattern_at}

-- the table, a row of sixteen places on two lines: five levels of ancestors, of descendants, of children
unfoldable pub patterns : List ℕ
patterns =
    1 ∷ 1 ∷ 1 ∷ 1 ∷ 1 ∷ 1 ∷ 1 ∷ 1
    ∷ 1 ∷ 1 ∷ 1 ∷ 1 ∷ 1 ∷ 1 ∷ 1 ∷ 1
    ∷ 3 ∷ 3 ∷ 3 ∷ 3 ∷ 3 ∷ 3 ∷ 3 ∷ 3
    ∷ 5 ∷ 5 ∷ 5 ∷ 5 ∷ 5 ∷ 5 ∷ 5 ∷ 5
    ∷ 11 ∷ 11 ∷ 11 ∷ 11 ∷ 19 ∷ 19 ∷ 19 ∷ 19
    ∷ 37 ∷ 37 ∷ 37 ∷ 37 ∷ 69 ∷ 69 ∷ 69 ∷ 69
    ∷ 139 ∷ 139 ∷ 267 ∷ 267 ∷ 531 ∷ 531 ∷ 1043 ∷ 1043
    ∷ 2085 ∷ 2085 ∷ 4133 ∷ 4133 ∷ 8261 ∷ 8261 ∷ 16453 ∷ 16453
    ∷ 32907 ∷ 65675 ∷ 131339 ∷ 262411 ∷ 524819 ∷ 1049107 ∷ 2098195 ∷ 4195347
    ∷ 8390693 ∷ 16779301 ∷ 33558565 ∷ 67112997 ∷ 134225989 ∷ 268443717 ∷ 536887365 ∷ 1073758277
    ∷ 2147483647 ∷ 2147483647 ∷ 2147483647 ∷ 2147483647 ∷ 2147483647 ∷ 2147483647 ∷ 2147483647 ∷ 2147483647
    ∷ 2147483647 ∷ 2147483647 ∷ 2147483647 ∷ 2147483647 ∷ 2147483647 ∷ 2147483647 ∷ 2147483647 ∷ 2147483647
    ∷ 8357786 ∷ 8357786 ∷ 8357786 ∷ 8357786 ∷ 8357786 ∷ 8357786 ∷ 8357786 ∷ 8357786
    ∷ 2139125860 ∷ 2139125860 ∷ 2139125860 ∷ 2139125860 ∷ 2139125860 ∷ 2139125860 ∷ 2139125860 ∷ 2139125860
    ∷ 491912 ∷ 491912 ∷ 491912 ∷ 491912 ∷ 7865872 ∷ 7865872 ∷ 7865872 ∷ 7865872
    ∷ 125835296 ∷ 125835296 ∷ 125835296 ∷ 125835296 ∷ 2013290560 ∷ 2013290560 ∷ 2013290560 ∷ 2013290560
    ∷ 98432 ∷ 98432 ∷ 393472 ∷ 393472 ∷ 1573376 ∷ 1573376 ∷ 6292480 ∷ 6292480
    ∷ 25167872 ∷ 25167872 ∷ 100667392 ∷ 100667392 ∷ 402661376 ∷ 402661376 ∷ 1610629120 ∷ 1610629120
    ∷ 32768 ∷ 65536 ∷ 131072 ∷ 262144 ∷ 524288 ∷ 1048576 ∷ 2097152 ∷ 4194304
    ∷ 8388608 ∷ 16777216 ∷ 33554432 ∷ 67108864 ∷ 134217728 ∷ 268435456 ∷ 536870912 ∷ 1073741824
    ∷ 4294967295 ∷ 4294967295 ∷ 4294967295 ∷ 4294967295 ∷ 4294967295 ∷ 4294967295 ∷ 4294967295 ∷ 4294967295
    ∷ 4294967295 ∷ 4294967295 ∷ 4294967295 ∷ 4294967295 ∷ 4294967295 ∷ 4294967295 ∷ 4294967295 ∷ 4294967295
    ∷ 65535 ∷ 65535 ∷ 65535 ∷ 65535 ∷ 65535 ∷ 65535 ∷ 65535 ∷ 65535
    ∷ 4294901760 ∷ 4294901760 ∷ 4294901760 ∷ 4294901760 ∷ 4294901760 ∷ 4294901760 ∷ 4294901760 ∷ 4294901760
    ∷ 255 ∷ 255 ∷ 255 ∷ 255 ∷ 65280 ∷ 65280 ∷ 65280 ∷ 65280
    ∷ 16711680 ∷ 16711680 ∷ 16711680 ∷ 16711680 ∷ 4278190080 ∷ 4278190080 ∷ 4278190080 ∷ 4278190080
    ∷ 15 ∷ 15 ∷ 240 ∷ 240 ∷ 3840 ∷ 3840 ∷ 61440 ∷ 61440
    ∷ 983040 ∷ 983040 ∷ 15728640 ∷ 15728640 ∷ 251658240 ∷ 251658240 ∷ 4026531840 ∷ 4026531840
    ∷ 3 ∷ 12 ∷ 48 ∷ 192 ∷ 768 ∷ 3072 ∷ 12288 ∷ 49152
    ∷ 196608 ∷ 786432 ∷ 3145728 ∷ 12582912 ∷ 50331648 ∷ 201326592 ∷ 805306368 ∷ 3221225472 ∷ []

-- entry k is the word that its rule picks
right : ℕ → ℕ → Bool
right k x = eqb x (pattern_at k)

all_right : T (every right 0 patterns)
unfolding patterns right pattern_at word rule_of is_ancestor is_descendant is_child_below lead level_of path_of
all_right = tt

-- what the test of the whole table says of one entry
pub entry_is : (k : ℕ) → k < length patterns → get_or patterns k 0 ≡ pattern_at k
unfolding right
entry_is k h = eqb→eq (get_or patterns k 0) (pattern_at k) (at right patterns all_right k h)

-- what the entry of a pattern at a level and place is
pub entry_word : (s level place k r : ℕ) → r ≡ pattern_at k → k ≡ 80 * s + level * 16 + place → level < 5 → place < 16 → r ≡ word 32 (rule_of s level place)
unfolding pattern_at
entry_word s level place k r p e hl hp =
    let a : k / 80 ≡ s = omega arith in
    let b : k % 80 / 16 ≡ level = omega arith in
    let c : k % 16 ≡ place = omega arith in
    p ∙ ap (λ (x : ℕ). word 32 (rule_of x (k % 80 / 16) (k % 16))) a ∙ ap (λ (x : ℕ). word 32 (rule_of s x (k % 16))) b ∙ ap (λ (x : ℕ). word 32 (rule_of s level x)) c
