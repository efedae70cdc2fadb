-- Document 01's readings of lookups, node counts and room, computed from the definitions alone. Assumes nothing.
use mathlib.Core.Path.{◌≡◌, refl}
use mathlib.Core.Bool.{true, false}
use mathlib.Core.List.{List, [], ◌∷◌}
use Prim.Native.Nat.{ℕ}
use Rattle.prefix.specs.Prefix.{first, masked}
use Rattle.tiers.specs.Tiers.{spacing_of, tier_of}
use Rattle.rules.specs.Sums.{sum}
use Rattle.rules.specs.Rules.{Rules, Edit, put, del, same, value_at, without, edited, live_from, live, rule_count, nothing, found, exact, longest, shortest}
use Rattle.rules.specs.Nodes.{passed, node, data_count, child_count, node_count, shortest_count}
use Rattle.rules.specs.Account.{taking, giving, moved, run}
use Rattle.rules.specs.Ledger.{Ledger, fresh, rise, fall, nodes_come, nodes_go, come_need, rise_need, fall_need, go_need, missing, emptied, lowest, node_moves, cell_moves, insert_room, remove_room, entered, ledger_from}

-- 0A000100/27, and with 0A000113/32 added
abbrev batch : Rules ℕ
batch = live (put 0x0A000113 27 7 ∷ [])

abbrev held : Rules ℕ
held = live (put 0x0A000113 32 0 ∷ put 0x0A000113 27 7 ∷ [])

-- an aggregate, 10.24.0.0/13, and a longer prefix inside it, 10.24.16.0/20, its key given with bits behind its length
abbrev routes : Rules ℕ
routes = live (put 0x0A18_1FFF 20 2 ∷ put 0x0A18_0000 13 1 ∷ [])

-- 0/0 and 0/32
abbrev ends : Rules ℕ
ends = live (put 0 0 1 ∷ put 0 32 2 ∷ [])

-- the cell's own rule wins, its neighbour keeps the batch's, and a shorter query than the rule finds nothing
pub lookups : (
    (exact batch 0x0A000100 26 ≡ nothing)
    × (longest batch 0x0A000100 26 ≡ nothing)
    × (exact batch 0x0A000100 27 ≡ found 0x0A000100 27 7)
    × (longest batch 0x0A000112 32 ≡ found 0x0A000100 27 7)
    × (longest held 0x0A000113 32 ≡ found 0x0A000113 32 0)
    × (longest held 0x0A000112 32 ≡ found 0x0A000100 27 7)
    × (shortest held 0x0A000113 32 ≡ found 0x0A000100 27 7)
    × (longest (live {Value = ℕ} []) 0x0A000113 32 ≡ nothing)
    )
unfolding first masked same value_at without edited live_from exact longest shortest
lookups = (refl, refl, refl, refl, refl, refl, refl, refl)

-- RFC 4632: of the prefixes that match an address the longest decides, and one that is withdrawn leaves the aggregate to decide
pub routed : (
    (longest routes 0x0A18_1105 32 ≡ found 0x0A18_1000 20 2)
    × (longest routes 0x0A18_2005 32 ≡ found 0x0A18_0000 13 1)
    × (longest routes 0x0A18_1000 19 ≡ found 0x0A18_0000 13 1)
    × (longest routes 0x0A20_0000 32 ≡ nothing)
    × (shortest routes 0x0A18_1105 32 ≡ found 0x0A18_0000 13 1)
    × (longest (edited (del 0x0A18_1000 20) routes) 0x0A18_1105 32 ≡ found 0x0A18_0000 13 1)
    × (exact (edited (put 0x0A18_1234 20 9) routes) 0x0A18_1000 20 ≡ found 0x0A18_1000 20 9)
    × (rule_count (edited (put 0x0A18_1234 20 9) routes) ≡ 2)
    )
unfolding first masked same value_at without edited live_from exact longest shortest
routed = (refl, refl, refl, refl, refl, refl, refl, refl)

-- 0/5, whose node stands at depth 5, and 0/4, which lives in the root
abbrev five : List (Edit ℕ)
five = put 0 5 7 ∷ []

abbrev four : List (Edit ℕ)
four = put 0 4 7 ∷ []

-- a fresh map's only node is the root; a rule has a node at its length's depth and none below; exact and longest count to the query's length,
-- shortest to the found one
pub counts : (
    (node_count (live {Value = ℕ} []) 0x0A000113 32 ≡ 1)
    × (node_count batch 0x0A000112 32 ≡ 6)
    × (node_count batch 0x0A000100 32 ≡ 6)
    × (node_count (live five) 0 32 ≡ 2)
    × (node_count (live four) 0 32 ≡ 1)
    × (shortest_count batch 0x0A000112 32 ≡ 6)
    × (longest ends 0 31 ≡ found 0 0 1)
    × (node_count ends 0 31 ≡ 7)
    × (shortest ends 0 31 ≡ found 0 0 1)
    × (shortest_count ends 0 31 ≡ 1)
    × (shortest_count batch 0x0A000112 26 ≡ 6)
    )
unfolding first masked same value_at without edited live_from exact longest shortest passed node sum node_count shortest_count
counts = (refl, refl, refl, refl, refl, refl, refl, refl, refl, refl, refl)

-- the ledger of N nodes and D cells after a history, the newest edit first
abbrev after : ℕ → ℕ → List (Edit ℕ) → Ledger ℕ
after N D h = ledger_from N D fresh h

-- one /32, and a second with no bit in common
abbrev first_32 : List (Edit ℕ)
first_32 = put 0 32 7 ∷ []

abbrev two_32 : List (Edit ℕ)
two_32 = put 0x80000000 32 7 ∷ put 0 32 7 ∷ []

-- two children of the root, one with a node below it
abbrev siblings : List (Edit ℕ)
siblings = put 0 10 7 ∷ put 0x08000000 5 7 ∷ put 0 5 7 ∷ []

-- three rules in the root, two in the node below
abbrev row : List (Edit ℕ)
row = put 0 6 7 ∷ put 0 5 7 ∷ put 0 2 7 ∷ put 0 1 7 ∷ put 0 0 7 ∷ []

-- a free block of two, and no single one
abbrev pair : List (Edit ℕ)
pair = put 0 10 7 ∷ put 0x10000000 5 7 ∷ put 0x08000000 5 7 ∷ put 0 5 7 ∷ []

-- room on each side of the mark
pub room : (
    -- a first /32 needs 7 nodes; 6 give no room
    (insert_room 7 1 (after 7 1 []) 0 32 ≡ true)
    × (insert_room 6 1 (after 6 1 []) 0 32 ≡ false)
    -- a next one, 80000000/32 after 0/32, needs 13; 12 give no room
    × (insert_room 13 2 (after 13 2 first_32) 0x80000000 32 ≡ true)
    × (insert_room 12 2 (after 12 2 first_32) 0x80000000 32 ≡ false)
    -- a second /32 under the same 30 bits needs 3 cells; 2 give no room
    × (insert_room 7 3 (after 7 3 first_32) 1 32 ≡ true)
    × (insert_room 7 2 (after 7 2 first_32) 1 32 ≡ false)
    -- a replacement needs nothing
    × (insert_room 7 1 (after 7 1 first_32) 0 32 ≡ true)
    -- a removal can be refused for room, in either pool
    × (remove_room 4 4 (after 4 4 siblings) 0x08000000 5 ≡ false)
    × (remove_room 5 4 (after 5 4 siblings) 0x08000000 5 ≡ true)
    × (remove_room 2 8 (after 2 8 row) 0 1 ≡ false)
    × (remove_room 2 9 (after 2 9 row) 0 1 ≡ true)
    -- a larger free block never serves a smaller need
    × (insert_room 8 9 (after 8 9 pair) 0x08000000 10 ≡ false)
    × (insert_room 9 9 (after 9 9 pair) 0x08000000 10 ≡ true)
    -- single blocks returned lower down serve a removal
    × (remove_room 13 2 (after 13 2 two_32) 0x80000000 32 ≡ true)
    )
unfolding first masked same value_at without edited live_from passed node sum data_count child_count node_count spacing_of tier_of taking giving moved run fresh rise fall nodes_come nodes_go come_need rise_need fall_need go_need missing emptied lowest node_moves cell_moves insert_room remove_room entered ledger_from
room = (refl, refl, refl, refl, refl, refl, refl, refl, refl, refl, refl, refl, refl, refl)
