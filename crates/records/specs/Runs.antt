-- A run of records: each is answered in turn on the state and memory that the one before left. Assumes nothing.
use Rattle.std.specs.Prelude.{ℕ, zero, suc, ◌*◌, cond, List, [], ◌++◌}
use Rattle.octets.specs.Octets.{written}
use Rattle.map.specs.declared.Values.{Values}
use Rattle.map.specs.Answers.{values_of}
use Rattle.map.specs.declared.State.{State}
use Rattle.map.specs.Memory.{Memory}
use Rattle.records.specs.Records.{record_bytes, op_in, len_in, key_in, value_in, good_in, reply_of, bad_record, call_of}

-- state, memory, and the bytes that answers are written into
pub record Run : Type 0 where
  pub state : State
  pub memory : Memory
  pub out : List ℕ

abbrev pub run : State → Memory → List ℕ → Run
run s m o = record { state = s; memory = m; out = o }

-- what the next call works on
abbrev pub after : Run → State × Memory
after r = (r.state, r.memory)

-- the record at `at` is answered at the same place
unfoldable pub one_of : Run → List ℕ → ℕ → Run
one_of r s at =
    let c = call_of r.state r.memory (op_in s at) (len_in s at) (key_in s at) (value_in s at) in
    cond (good_in s at)
    (run c.0.state c.1 (written r.out at (reply_of (values_of c.0.answer))))
    (run r.state r.memory (written r.out at (reply_of bad_record)))

-- the first n records
unfoldable pub wholes_of : ℕ → Run → List ℕ → Run
wholes_of zero r s = r
wholes_of (suc n) r s = one_of (wholes_of n r s) s (n * record_bytes)

-- the values that answer the record at `at`
unfoldable pub values_in : State → Memory → List ℕ → ℕ → Values
values_in st m s at = cond (good_in s at) (values_of (call_of st m (op_in s at) (len_in s at) (key_in s at) (value_in s at)).0.answer) bad_record

-- the replies to the first n records, one after the other
unfoldable pub replies_of : ℕ → Run → List ℕ → List ℕ
replies_of zero r s = []
replies_of (suc n) r s = replies_of n r s ++ reply_of (values_in (wholes_of n r s).state (wholes_of n r s).memory s (n * record_bytes))
