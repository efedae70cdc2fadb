-- The calls of a history, and what each is to answer: worked out from the accepted edits and the sizes of the pools alone, with no
-- look at memory or state (the order, demands 2 and 3). N nodes and D cells. Assumes nothing.
use Rattle.std.specs.Prelude.{Bool, true, false, cond, List, [], ◌∷◌, ℕ, ◌^◌, ◌<◌, leb}
use Rattle.std.proofs.Math.Option.{Option, none, some}
use Rattle.prefix.specs.Prefix.{width, masked}
use Rattle.store.specs.declared.Cell.{Cell}
use Rattle.rules.specs.Rules.{Edit, put, del, value_at, nothing, found}
use Rattle.rules.specs.Rules as rules
use Rattle.rules.specs.Nodes.{node_count, shortest_count}
use Rattle.rules.specs.Ledger.{Ledger, insert_room, remove_room}
use Rattle.map.specs.declared.Answer.{Answer}
use Rattle.map.specs.declared.Answer.TheVariants.{Started, Added, Replaced, Removed, Found, TooLong, Missing, WrongSlice, NoRoom, Broken}

-- a call, with its key and its length: any key of 32 bits, any length
pub data Call : Type 0 where
  insert : ℕ → ℕ → Cell → Call
  remove : ℕ → ℕ → Call
  exact : ℕ → ℕ → Call
  longest : ℕ → ℕ → Call
  shortest : ℕ → ℕ → Call

-- its key has 32 bits, as a u32 has
abbrev pub Given : Call → Type 0
Given (insert key len v) = key < 2 ^ width
Given (remove key len) = key < 2 ^ width
Given (exact key len) = key < 2 ^ width
Given (longest key len) = key < 2 ^ width
Given (shortest key len) = key < 2 ^ width

-- ---- what is answered

-- an edit is accepted: added, replaced, removed (numbers 0 and 8)
abbrev pub accepted : Answer → Bool
accepted Started = false
accepted (Added key len) = true
accepted (Replaced key len v) = true
accepted (Removed key len v) = true
accepted (Found key len v n) = false
accepted TooLong = false
accepted (Missing n) = false
accepted WrongSlice = false
accepted NoRoom = false
accepted Broken = false

-- a lookup's answer, with n nodes on its path: 2 where no rule answers, else the rule's masked key, length and value
abbrev pub told : rules.Answer Cell → ℕ → Answer
told nothing n = Missing n
told (found key len v) n = Found key len v.value n

-- an insert where there is room: added, or replaced with the old value
abbrev pub stored : ℕ → ℕ → Option Cell → Answer
stored key len none = Added (masked key len) len
stored key len (some old) = Replaced (masked key len) len old.value

-- a removal: 2 where the rule isn't stored; else removed, if there is room
abbrev pub taken : ℕ → ℕ → Bool → Option Cell → Answer
taken key len room none = Missing 0
taken key len room (some old) = cond room (Removed (masked key len) len old.value) NoRoom

-- the answer to a call, from the ledger: 1 for a length above 32; 4 exactly where the ledger can't supply the blocks
unfoldable pub reply : ℕ → ℕ → Ledger Cell → Call → Answer
reply N D g (insert key len v) = cond (leb len width) (cond (insert_room N D g key len) (stored key len (value_at g.rules key len)) NoRoom) TooLong
reply N D g (remove key len) = cond (leb len width) (taken key len (remove_room N D g key len) (value_at g.rules key len)) TooLong
reply N D g (exact key len) = cond (leb len width) (told (rules.exact g.rules key len) (node_count g.rules key len)) TooLong
reply N D g (longest key len) = cond (leb len width) (told (rules.longest g.rules key len) (node_count g.rules key len)) TooLong
reply N D g (shortest key len) = cond (leb len width) (told (rules.shortest g.rules key len) (shortest_count g.rules key len)) TooLong

-- ---- the accepted edits

-- a call and its answer add an edit to the history, newest first, where the edit is accepted
abbrev pub noted : Call → Answer → List (Edit Cell) → List (Edit Cell)
noted (insert key len v) a h = cond (accepted a) (put key len v ∷ h) h
noted (remove key len) a h = cond (accepted a) (del key len ∷ h) h
noted (exact key len) a h = h
noted (longest key len) a h = h
noted (shortest key len) a h = h

-- the accepted edits of calls and their answers, newest first
unfoldable pub history : List Call → List Answer → List (Edit Cell)
history [] ans = []
history (c ∷ cs) [] = []
history (c ∷ cs) (a ∷ ans) = noted c a (history cs ans)
