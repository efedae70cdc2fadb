-- Bench records (document 01): twelve bytes in, twelve bytes out. Assumes nothing.
use Rattle.std.specs.Prelude.{ℕ, ◌+◌, ◌%◌, Bool, ◌&&◌, ◌||◌, cond, List, ◌∷◌, ◌++◌, leb, eqb, get_or}
use Rattle.octets.specs.Octets.{word_in, bytes_of}
use Rattle.store.specs.Words.{cell_as}
use Rattle.map.specs.declared.Values.{Values}
use Rattle.map.specs.Answers.{values}
use Rattle.map.specs.declared.State.{State}
use Rattle.map.specs.declared.Edited.{Edited}
use Rattle.map.specs.Memory.{Memory, edited}
use Rattle.map.specs.Inserts.{insert_of}
use Rattle.map.specs.Removals.{remove_of}
use Rattle.map.specs.Lookups.{exact_of, longest_of, shortest_of}

-- the bytes of a record, in and out
abbrev pub record_bytes : ℕ
record_bytes = 12

-- in: operation, length, two zero bytes, key, value
abbrev pub op_in : List ℕ → ℕ → ℕ
op_in s at = get_or s at 0

abbrev pub len_in : List ℕ → ℕ → ℕ
len_in s at = get_or s (at + 1) 0

abbrev pub key_in : List ℕ → ℕ → ℕ
key_in s at = word_in s (at + 4)

abbrev pub value_in : List ℕ → ℕ → ℕ
value_in s at = word_in s (at + 8)

-- the operation is 1 to 5, the two bytes are zero, and so is the value unless inserting: else 6, before any other test
unfoldable pub good_in : List ℕ → ℕ → Bool
good_in s at =
    leb 1 (op_in s at) && leb (op_in s at) 5 && eqb (get_or s (at + 2) 0) 0 && eqb (get_or s (at + 3) 0) 0 && (eqb (op_in s at) 1 || eqb (value_in s at) 0)

-- out: number, length, node count, zero, key, value; a byte holds a number's last eight bits
abbrev pub byte_of : ℕ → ℕ
byte_of x = x % 256

unfoldable pub reply_of : Values → List ℕ
reply_of v = byte_of v.number ∷ byte_of v.len ∷ byte_of v.nodes ∷ 0 ∷ (bytes_of v.key ++ bytes_of v.value)

-- the program's own numbers, with zeros
abbrev pub bad_record : Values
bad_record = values 6 0 0 0 0

abbrev pub cut_short : Values
cut_short = values 7 0 0 0 0

-- the call of a good record: 1 insert, 2 remove, 3 exact, 4 longest, 5 shortest
unfoldable pub call_of : State → Memory → ℕ → ℕ → ℕ → ℕ → Edited × Memory
call_of s m op len key v =
    cond (eqb op 1) (insert_of s m key len (cell_as v))
    (cond (eqb op 2) (remove_of s m key len)
    (cond (eqb op 3) (edited (exact_of s m.nodes m.cells key len) s, m)
    (cond (eqb op 4) (edited (longest_of s m.nodes m.cells key len) s, m)
    (edited (shortest_of s m.nodes m.cells key len) s, m))))
