-- The state crosses to C and back unchanged, either way round. Assumes nothing.
use mathlib.Core.Path.{◌≡◌, refl}
use Rattle.map.specs.declared.State.{State}
use Rattle.cabinet.specs.declared.CabinetState.{CabinetState}
use Rattle.cabinet.specs.Conversions.{state_of, state_told}

-- out to C and back
pub out_and_in : (s : State) → state_of (state_told s) ≡ s
out_and_in s = refl

-- in from C and back
pub in_and_out : (s : CabinetState) → state_told (state_of s) ≡ s
in_and_out s = refl
