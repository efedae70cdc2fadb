-- Exact, longest and shortest: first tests, the walk, then the value of what was seen (document 01, calls and number 5). Assumes nothing.
use Rattle.std.specs.Prelude.{Option, Some, None, Result, Ok, Err, ℕ, ◌+◌, cond, List, eqb, length}
use Rattle.bits.specs.Bits.{count, set_below}
use Rattle.prefix.specs.Prefix.{masked}
use Rattle.store.specs.Words.{cell_at}
use Rattle.entry.specs.First.{lookup_first}
use Rattle.refusals.specs.declared.Refusal.{Refusal}
use Rattle.walk.specs.declared.Sight.{Sight}
use Rattle.walk.specs.declared.Rule.{Rule}
use Rattle.walk.specs.Steps.{data_within}
use Rattle.walk.specs.Lookups.{longest_sight, shortest_sight, exact_sight}
use Rattle.map.specs.declared.State.{State}
use Rattle.map.specs.declared.Answer.{Answer}
use Rattle.map.specs.declared.Answer.TheVariants.{Found, Missing as Absent, Broken}
use Rattle.map.specs.Memory.{refusal}

-- the answer of a rule that was seen, if there is one, by a walk that visited n nodes: its block of cells is read for its value alone
unfoldable pub told_of : Option Rule → ℕ → List ℕ → ℕ → ℕ → Answer
told_of None n cells lim key = Absent n
told_of (Some rule) n cells lim key =
    let at = rule.cells.0 in
    cond (data_within lim (count rule.bitmap) at) (Found (masked key rule.len) rule.len (cell_at cells (at + set_below rule.bitmap rule.bit)).value n) Broken

-- the answer of a sight
unfoldable pub answer_of : Result Sight Refusal → List ℕ → ℕ → ℕ → Answer
answer_of (Err r) cells lim key = Broken
answer_of (Ok sight) cells lim key = told_of sight.rule sight.visits cells lim key

-- a lookup: refused, or the answer of what its walk sees
abbrev pub lookup_of : State → List ℕ → List ℕ → ℕ → ℕ → Result Sight Refusal → Answer
lookup_of s nodes cells key len sight =
    let n = lookup_first s.nodes s.cells s.rules (length nodes) (length cells) len in
    cond (eqb n 0) (answer_of sight cells s.cells.mark key) (refusal n)

unfoldable pub exact_of : State → List ℕ → List ℕ → ℕ → ℕ → Answer
exact_of s nodes cells key len = lookup_of s nodes cells key len (exact_sight nodes s.nodes.mark key len)

unfoldable pub longest_of : State → List ℕ → List ℕ → ℕ → ℕ → Answer
longest_of s nodes cells key len = lookup_of s nodes cells key len (longest_sight nodes s.nodes.mark key len)

unfoldable pub shortest_of : State → List ℕ → List ℕ → ℕ → ℕ → Answer
shortest_of s nodes cells key len = lookup_of s nodes cells key len (shortest_sight nodes s.nodes.mark key len)
