-- What the theorem says number by number: 5 and 3 never occur in a trace, a count is never above seven, 1, 2 and 4 come exactly where
-- the definitions say. Assumes nothing.
use mathlib.Core.Path.{◌≡◌, refl, sym, ◌∙◌}
use mathlib.Core.Bool.{Bool, true, false, cond}
use mathlib.Core.Option.{Option, none, some}
use mathlib.Core.List.{List}
use Prim.Native.Nat.{ℕ, ◌≤◌}
use native.Mathlib.Omega.{arith}
use lib.Dec.{leb}
use Rattle.prefix.specs.Prefix.{width}
use Rattle.store.specs.declared.Cell.{Cell}
use Rattle.map.specs.declared.State.{State}
use Rattle.map.specs.declared.Answer.{Answer}
use Rattle.map.specs.declared.Answer.TheVariants.{TooLong, NoRoom}
use Rattle.map.specs.Memory.{Memory}
use Rattle.map.specs.declared.Values.{Values}
use Rattle.map.specs.Answers.{values_of}
use Rattle.rules.specs.Rules.{value_at}
use Rattle.rules.specs.Rules as rules
use Rattle.rules.specs.Nodes.{node_count, shortest_count}
use Rattle.rules.specs.Ledger.{Ledger, insert_room, remove_room}
use Rattle.rules.proofs.Paths.{count_seven, shortest_seven}
use Rattle.history.specs.Calls.{Call, insert, remove, exact, longest, shortest, Given, told, stored, taken, reply, history}
use Rattle.history.specs.Traces.{promised, Trace}
use Rattle.history.specs.Promises.{ledger}
use Rattle.history.proofs.Always.{theorem}

-- an answer of a trace: no 3, no 5, at most seven nodes
pub record Plain (v : Values) : Type 0 where
  pub whole : v.number ≡ 3 → ⊥
  pub sound : v.number ≡ 5 → ⊥
  pub seven : v.nodes ≤ 7

-- every number but these two, with no count
uncounted : (v : Values) (n : ℕ) → v.number ≡ n → (n ≡ 3 → ⊥) → (n ≡ 5 → ⊥) → v.nodes ≡ 0 → Plain v
uncounted v n e h k z = record { whole = λ q. h (sym e ∙ q); sound = λ q. k (sym e ∙ q); seven = omega arith }

told_plain : (a : rules.Answer Cell) (n : ℕ) → n ≤ 7 → Plain (values_of (told a n))
told_plain rules.nothing n h = record { whole = λ q. omega arith; sound = λ q. omega arith; seven = h }
told_plain (rules.found key len v) n h = record { whole = λ q. omega arith; sound = λ q. omega arith; seven = h }

long_plain : Plain (values_of TooLong)
long_plain = uncounted (values_of TooLong) 1 refl (λ q. omega arith) (λ q. omega arith) refl

full_plain : Plain (values_of NoRoom)
full_plain = uncounted (values_of NoRoom) 4 refl (λ q. omega arith) (λ q. omega arith) refl

stored_plain : (key len : ℕ) (o : Option Cell) → Plain (values_of (stored key len o))
stored_plain key len none = uncounted _ 0 refl (λ q. omega arith) (λ q. omega arith) refl
stored_plain key len (some old) = uncounted _ 8 refl (λ q. omega arith) (λ q. omega arith) refl

taken_plain : (key len : ℕ) (room : Bool) (o : Option Cell) → Plain (values_of (taken key len room o))
taken_plain key len room none = uncounted _ 2 refl (λ q. omega arith) (λ q. omega arith) refl
taken_plain key len true (some old) = uncounted _ 0 refl (λ q. omega arith) (λ q. omega arith) refl
taken_plain key len false (some old) = full_plain

-- one of two answers
either : (t : Bool) (x y : Answer) → Plain (values_of x) → Plain (values_of y) → Plain (values_of (cond t x y))
either true x y p q = p
either false x y p q = q

-- what the ledger answers is plain
pub reply_plain : (N D : ℕ) (g : Ledger Cell) (c : Call) → Plain (values_of (reply N D g c))
unfolding reply
reply_plain N D g (insert key len v) =
    either (leb len width) _ TooLong (either (insert_room N D g key len) (stored key len (value_at g.rules key len)) NoRoom (stored_plain key len (value_at g.rules key len)) full_plain) long_plain
reply_plain N D g (remove key len) = either (leb len width) _ TooLong (taken_plain key len (remove_room N D g key len) (value_at g.rules key len)) long_plain
reply_plain N D g (exact key len) =
    either (leb len width) _ TooLong (told_plain (rules.exact g.rules key len) (node_count g.rules key len) (count_seven g.rules key len)) long_plain
reply_plain N D g (longest key len) =
    either (leb len width) _ TooLong (told_plain (rules.longest g.rules key len) (node_count g.rules key len) (count_seven g.rules key len)) long_plain
reply_plain N D g (shortest key len) =
    either (leb len width) _ TooLong (told_plain (rules.shortest g.rules key len) (shortest_count g.rules key len) (shortest_seven g.rules key len)) long_plain

-- after any trace, no call meets 5 or 3, and none counts more than seven nodes
pub never : {N D : ℕ} {cs : List Call} {ans : List Answer} {s : State} {m : Memory} → Trace N D cs ans s m → (c : Call) → Given c
    → Plain (values_of (promised c s m).0.answer)
never {N = N} {D = D} {cs = cs} {ans = ans} t c k = rw ((theorem t).next c k) (reply_plain N D (ledger N D (history cs ans)) c)
