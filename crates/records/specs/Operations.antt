-- The numbers of the operations, and a good record read from its bytes. Assumes nothing.
use Rattle.std.specs.Prelude.{ℕ, ◌≡◌, ◌≤◌, ◌<◌, List, true, Result, MatchResult}
use Rattle.records.specs.declared.codec.Operation.{Operation}
use Rattle.records.specs.declared.codec.Operation.TheVariants.{Insert, Remove, Exact, Longest, Shortest}
use Rattle.records.specs.declared.codec.UnknownOperation.{UnknownOperation}
use Rattle.records.specs.declared.codec.Record.{Record}
use Rattle.records.specs.Records.{op_in, len_in, key_in, value_in, good_in}

abbrev pub number_of : Operation → ℕ
number_of Insert = 1
number_of Remove = 2
number_of Exact = 3
number_of Longest = 4
number_of Shortest = 5

-- the result is the operation of the number, or an error with a number that none has
abbrev pub Named : ℕ → Result Operation UnknownOperation → Type 0
Named n r = MatchResult r (λ op. n ≡ number_of op) (λ e. (e.0 ≡ n) × (1 ≤ n → 5 < n))

-- the bytes at `at` are a good record, and r is that record
pub record IsRecordIn (s : List ℕ) (at : ℕ) (r : Record) : Type 0 where
  pub good : good_in s at ≡ true
  pub op : op_in s at ≡ number_of r.op
  pub len : r.len ≡ len_in s at
  pub key : r.key ≡ key_in s at
  pub value : r.value ≡ value_in s at
