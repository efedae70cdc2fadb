-- The structs that cross to C, as the map's own state, answer and outcome. Assumes nothing.
use Rattle.std.specs.Prelude.{ℕ}
use Rattle.map.specs.declared.State.{State}
use Rattle.map.specs.declared.Answer.{Answer}
use Rattle.map.specs.declared.Edited.{Edited}
use Rattle.map.specs.declared.Values.{Values}
use Rattle.map.specs.Answers.{values_of}
use Rattle.map.specs.Memory.{Memory, state_as}
use Rattle.cabinet.specs.declared.CabinetState.{CabinetState}
use Rattle.cabinet.specs.declared.CabinetAnswer.{CabinetAnswer}
use Rattle.cabinet.specs.declared.CabinetEdit.{CabinetEdit}

-- the map's state of a state from C
abbrev pub state_of : CabinetState → State
state_of s =
    state_as (record { size = s.node_size; mark = s.node_mark; free = s.node_free })
    (record { size = s.cell_size; mark = s.cell_mark; free = s.cell_free }) s.rules

-- the state for C of the map's state
abbrev pub state_told : State → CabinetState
state_told s =
    record {
      node_size = s.nodes.size;
      node_mark = s.nodes.mark;
      node_free = s.nodes.free;
      cell_size = s.cells.size;
      cell_mark = s.cells.mark;
      cell_free = s.cells.free;
      rules = s.rules;
    }

abbrev pub answer_as : ℕ → ℕ → ℕ → ℕ → ℕ → CabinetAnswer
answer_as n l c k v = record { number = n; len = l; nodes = c; key = k; value = v }

-- document 01's number and values, as a struct for C
abbrev pub values_told : Values → CabinetAnswer
values_told v = answer_as v.number v.len v.nodes v.key v.value

-- an answer of the map, for C
abbrev pub answered : Answer → CabinetAnswer
answered a = values_told (values_of a)

abbrev pub edit_as : CabinetState → CabinetAnswer → CabinetEdit
edit_as s a = record { state = s; answer = a }

-- what an edit gives, for C
abbrev pub edit_told : Edited → CabinetEdit
edit_told e = edit_as (state_told e.state) (answered e.answer)

-- an edit's outcome handed on: the same memory
abbrev pub handed_on : Edited × Memory → CabinetEdit × Memory
handed_on o = (edit_told o.0, o.1)
