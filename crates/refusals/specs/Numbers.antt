-- Document 01's number of each refusal ("Numbers the desk gives back"). Assumes nothing.
use Rattle.std.specs.Prelude.{ℕ, Ok, Err, Result}
use Rattle.refusals.specs.declared.Refusal.{Refusal}
use Rattle.refusals.specs.declared.Refusal.TheVariants.{TooLong, Missing, WrongSlice, NoRoom, Broken}

abbrev pub number_of : Refusal → ℕ
number_of TooLong = 1
number_of Missing = 2
number_of WrongSlice = 3
number_of NoRoom = 4
number_of Broken = 5

-- the number of an outcome: 0 where nothing is refused
abbrev pub ended : {A : Type 0} → Result A Refusal → ℕ
ended (Ok x) = 0
ended (Err r) = number_of r
