-- A trace: an accepted fresh start, then any calls, each handed the last state given back and the same whole memory, each with an
-- outcome that meets the call's promise (the order, demand 3). Assumes nothing.
use Rattle.std.specs.Prelude.{◌≡◌, List, [], ◌∷◌, ℕ}
use Rattle.map.specs.declared.State.{State}
use Rattle.map.specs.declared.Answer.{Answer}
use Rattle.map.specs.declared.Answer.TheVariants.{Started}
use Rattle.map.specs.declared.Edited.{Edited}
use Rattle.map.specs.Memory.{Memory, edited}
use Rattle.map.specs.Fresh.{fresh_of}
use Rattle.map.specs.Lookups.{exact_of, longest_of, shortest_of}
use Rattle.map.specs.Inserts.{insert_of}
use Rattle.map.specs.Removals.{remove_of}
use Rattle.history.specs.Calls.{Call, insert, remove, exact, longest, shortest, Given}

-- what the promise of a call fixes: answer, state and memory afterwards. A lookup lends its slices for reading alone
unfoldable pub promised : Call → State → Memory → Edited × Memory
promised (insert key len v) s m = insert_of s m key len v
promised (remove key len) s m = remove_of s m key len
promised (exact key len) s m = (edited (exact_of s m.nodes m.cells key len) s, m)
promised (longest key len) s m = (edited (longest_of s m.nodes m.cells key len) s, m)
promised (shortest key len) s m = (edited (shortest_of s m.nodes m.cells key len) s, m)

-- from a fresh start over N nodes and D cells: the calls and their answers, newest first, with the state and memory after them
pub data Trace (N D : ℕ) : List Call → List Answer → State → Memory → Type 0 where
  begun : (lent m : Memory) (s : State) → fresh_of lent N D ≡ (edited Started s, m) → Trace N D [] [] s m
  called : (cs : List Call) (ans : List Answer) (s : State) (m : Memory) (c : Call) (e : Edited) (m' : Memory)
      → Trace N D cs ans s m → Given c → promised c s m ≡ (e, m') → Trace N D (c ∷ cs) (e.answer ∷ ans) e.state m'
