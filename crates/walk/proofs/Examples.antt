-- Worked examples of the walks on written-out memory, with the words of the edge that each shows. Assumes nothing.
use mathlib.Core.Path.{◌≡◌, refl}
use mathlib.Core.List.{List, [], ◌∷◌}
use Prim.Native.Nat.{ℕ}
use Rattle.bits.specs.Bits.{bit_at, set_below}
use Rattle.prefix.specs.Prefix.{first}
use Rattle.tiers.specs.Tiers.{spacing_of, tier_of, empty}
use Rattle.tiers.specs.declared.CellAt.{CellAt}
use Rattle.places.specs.Places.{data_bit, child_bit, level_of, length_at}
use Rattle.node.specs.Matches as matches
use Rattle.store.specs.Words.{node_at}
use Rattle.std.specs.Prelude.{Some, None, Result, Ok, Err}
use Rattle.refusals.specs.declared.Refusal.{Refusal}
use Rattle.refusals.specs.declared.Refusal.TheVariants.{Broken}
use Rattle.walk.specs.declared.Sight.{Sight}
use Rattle.walk.specs.Steps.{sound_of, children_within, step_of}
use Rattle.walk.specs.Lookups.{better, exact_in, walk_step, walk_from, walk_of, longest_sight, shortest_sight, exact_sight}

abbrev cells : ℕ → CellAt
cells i = record { 0 = i }

-- a rule seen, or none, with the nodes visited
abbrev seen : ℕ → ℕ → ℕ → ℕ → ℕ → Result Sight Refusal
seen i bitmap b len n = Ok (record { rule = Some (record { cells = cells i; bitmap = bitmap; bit = b; len = len }); visits = n })

abbrev missing : ℕ → Result Sight Refusal
missing n = Ok (record { rule = None; visits = n })

-- a fresh map: the root alone
abbrev fresh : List ℕ
fresh = 0 ∷ 0 ∷ empty ∷ empty ∷ []

fresh_longest : longest_sight fresh 1 0x0A00_0113 32 ≡ missing 1
unfolding walk_of walk_from walk_step better sound_of step_of node_at bit_at child_bit data_bit first matches.longest_in matches.longest_from matches.found_or
fresh_longest = refl

-- a mark of 0 leaves no root
no_root : longest_sight fresh 0 0x0A00_0113 32 ≡ Err Broken
unfolding walk_of
no_root = refl

-- 0/0 and 0/5, in the root and in its only child; the root's last two words are given
abbrev two : ℕ → ℕ → List ℕ
two at from = 1 ∷ 1 ∷ at ∷ from ∷ 1 ∷ 0 ∷ empty ∷ 1 ∷ []

two_exact : exact_sight (two 1 0) 2 0 5 ≡ seen 1 1 0 5 2
unfolding walk_of walk_from walk_step exact_in sound_of step_of children_within spacing_of tier_of node_at bit_at set_below child_bit data_bit level_of length_at first
two_exact = refl

two_longest : longest_sight (two 1 0) 2 0xFFFF_FFFF 32 ≡ seen 0 1 0 0 1
unfolding walk_of walk_from walk_step better sound_of step_of children_within spacing_of tier_of node_at bit_at set_below
    child_bit data_bit level_of length_at first matches.longest_in matches.longest_from matches.found_or
two_longest = refl

-- an empty index beside a bitmap is met at the root, and so it is by a lookup that would stop there
root_unsound : exact_sight (two 1 empty) 2 0 5 ≡ Err Broken
unfolding walk_of walk_from walk_step exact_in sound_of step_of children_within spacing_of tier_of node_at bit_at set_below child_bit data_bit level_of length_at first
root_unsound = refl

children_unsound : shortest_sight (two empty 0) 2 0 32 ≡ Err Broken
unfolding walk_of walk_from walk_step better sound_of step_of children_within spacing_of tier_of node_at bit_at set_below
    child_bit data_bit level_of length_at first matches.shortest_in matches.shortest_from matches.found_or
children_unsound = refl

-- the last node's child block isn't read, nor is that of the node where shortest stops
last_unread : exact_sight (two 9 0) 2 0 0 ≡ seen 0 1 0 0 1
unfolding walk_of walk_from walk_step exact_in sound_of step_of children_within spacing_of tier_of node_at bit_at set_below child_bit data_bit level_of length_at first
last_unread = refl

first_unread : shortest_sight (two 9 0) 2 0 32 ≡ seen 0 1 0 0 1
unfolding walk_of walk_from walk_step better sound_of step_of children_within spacing_of tier_of node_at bit_at set_below
    child_bit data_bit level_of length_at first matches.shortest_in matches.shortest_from matches.found_or
first_unread = refl

-- a longer query reads it, and meets a block past the mark; no sum wraps
past_mark : longest_sight (two 9 0) 2 0 32 ≡ Err Broken
unfolding walk_of walk_from walk_step better sound_of step_of children_within spacing_of tier_of node_at bit_at set_below
    child_bit data_bit level_of length_at first matches.longest_in matches.longest_from matches.found_or
past_mark = refl

no_wrap : longest_sight (two 0xFFFF_FFFE 0) 2 0 32 ≡ Err Broken
unfolding walk_of walk_from walk_step better sound_of step_of children_within spacing_of tier_of node_at bit_at set_below
    child_bit data_bit level_of length_at first matches.longest_in matches.longest_from matches.found_or
no_wrap = refl

-- three children in a block of four: all four are below the mark, or the walk is broken
abbrev three : List ℕ
three = 0 ∷ 7 ∷ 1 ∷ empty ∷ 1 ∷ 0 ∷ empty ∷ 0 ∷ 1 ∷ 0 ∷ empty ∷ 1 ∷ 1 ∷ 0 ∷ empty ∷ 2 ∷ 0 ∷ 0 ∷ empty ∷ empty ∷ []

whole_block : exact_sight three 5 0x1000_0000 5 ≡ seen 2 1 0 5 2
unfolding walk_of walk_from walk_step exact_in sound_of step_of children_within spacing_of tier_of node_at bit_at set_below child_bit data_bit level_of length_at first
whole_block = refl

part_of_block : exact_sight three 4 0x1000_0000 5 ≡ Err Broken
unfolding walk_of walk_from walk_step exact_in sound_of step_of children_within spacing_of tier_of node_at bit_at set_below child_bit data_bit level_of length_at first
part_of_block = refl

-- 0/0 and 0/32: the count runs to the query's length, and the answer is in the root
abbrev chain : List ℕ
chain =
    1 ∷ 1 ∷ 1 ∷ 0 ∷ 0 ∷ 1 ∷ 2 ∷ empty ∷ 0 ∷ 1 ∷ 3 ∷ empty ∷ 0 ∷ 1 ∷ 4 ∷ empty ∷ 0 ∷ 1 ∷ 5 ∷ empty ∷ 0 ∷ 1 ∷ 6 ∷ empty ∷ 8 ∷ 0 ∷ empty ∷ 1 ∷ []

shallow_answer : longest_sight chain 7 0 31 ≡ seen 0 1 0 0 7
unfolding walk_of walk_from walk_step better sound_of step_of children_within spacing_of tier_of node_at bit_at set_below
    child_bit data_bit level_of length_at first matches.longest_in matches.longest_from matches.found_or
shallow_answer = refl

own_answer : longest_sight chain 7 0 32 ≡ seen 1 8 3 32 7
unfolding walk_of walk_from walk_step better sound_of step_of children_within spacing_of tier_of node_at bit_at set_below
    child_bit data_bit level_of length_at first matches.longest_in matches.longest_from matches.found_or
own_answer = refl

first_answer : shortest_sight chain 7 0 32 ≡ seen 0 1 0 0 1
unfolding walk_of walk_from walk_step better sound_of step_of children_within spacing_of tier_of node_at bit_at set_below
    child_bit data_bit level_of length_at first matches.shortest_in matches.shortest_from matches.found_or
first_answer = refl
