-- One more record after the first ones. Assumes nothing.
use mathlib.Core.Path.{◌≡◌, ap}
use mathlib.Core.List.{List}
use Prim.Native.Nat.{ℕ, ◌+◌, ◌*◌}
use native.Mathlib.Numerals.{add-one}
use Rattle.records.specs.Records.{record_bytes}
use Rattle.records.specs.Runs.{Run, one_of, wholes_of}

-- one more record after the first i
pub one_more : (i : ℕ) (r : Run) (input : List ℕ) → wholes_of (i + 1) r input ≡ one_of (wholes_of i r input) input (i * record_bytes)
unfolding wholes_of
one_more i r input = ap (λ (n : ℕ). wholes_of n r input) (add-one i)
