-- What the caller lends, and a refusal: the same state, the same memory. Assumes nothing.
use Rattle.std.specs.Prelude.{Result, Ok, Err, ℕ, cond, List, eqb}
use Rattle.refusals.specs.declared.Refusal.{Refusal}
use Rattle.refusals.specs.Numbers.{number_of}
use Rattle.blocks.specs.declared.Pool.{Pool}
use Rattle.map.specs.declared.State.{State}
use Rattle.map.specs.declared.Answer.{Answer}
use Rattle.map.specs.declared.Answer.TheVariants.{TooLong, Missing, WrongSlice, NoRoom, Broken}
use Rattle.map.specs.declared.Edited.{Edited}

-- the words of the node pool, of the data pool, and of their free lists
pub record Memory : Type 0 where
  pub nodes : List ℕ
  pub cells : List ℕ
  pub node_free : List ℕ
  pub cell_free : List ℕ

abbrev pub memory : List ℕ → List ℕ → List ℕ → List ℕ → Memory
memory a b c d = record { nodes = a; cells = b; node_free = c; cell_free = d }

abbrev pub state_as : Pool → Pool → ℕ → State
state_as p q r = record { nodes = p; cells = q; rules = r }

abbrev pub edited : Answer → State → Edited
edited a s = record { answer = a; state = s }

-- the refusal of a number that an edit's steps meet
abbrev pub refusal : ℕ → Answer
refusal n = cond (eqb n 1) TooLong (cond (eqb n 2) (Missing 0) (cond (eqb n 3) WrongSlice (cond (eqb n 4) NoRoom Broken)))

abbrev pub refuse : ℕ → State → Memory → Edited × Memory
refuse n s m = (edited (refusal n) s, m)

-- an edit that ends with this state: the answer of its steps, or their refusal
abbrev pub settled : State → Result Answer Refusal → Edited
settled s (Ok a) = edited a s
settled s (Err r) = edited (refusal (number_of r)) s
