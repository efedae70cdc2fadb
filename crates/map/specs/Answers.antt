-- Document 01's number and values for each case of an answer ("Numbers the desk gives back"). Assumes nothing.
use Rattle.std.specs.Prelude.{ℕ}
use Rattle.map.specs.declared.Answer.{Answer}
use Rattle.map.specs.declared.Values.{Values}
use Rattle.map.specs.declared.Answer.TheVariants.{Started, Added, Replaced, Removed, Found, TooLong, Missing, WrongSlice, NoRoom, Broken}

abbrev pub values : ℕ → ℕ → ℕ → ℕ → ℕ → Values
values n l c k v = record { number = n; len = l; nodes = c; key = k; value = v }

abbrev pub values_of : Answer → Values
values_of Started = values 0 0 0 0 0
values_of (Added k l) = values 0 l 0 k 0
values_of (Removed k l v) = values 0 l 0 k v
values_of (Found k l v c) = values 0 l c k v
values_of (Replaced k l v) = values 8 l 0 k v
values_of TooLong = values 1 0 0 0 0
values_of (Missing c) = values 2 0 c 0 0
values_of WrongSlice = values 3 0 0 0 0
values_of NoRoom = values 4 0 0 0 0
values_of Broken = values 5 0 0 0 0
