-- The readings that document 01 marks *, as one list of inputs and results. Assumes nothing.
use Rattle.std.specs.Prelude.{◌≡◌, List, [], ◌∷◌}
use Rattle.readings.specs.declared.Input.{Input}
use Rattle.readings.specs.declared.Input.TheVariants.{DataBit, LpmMask, ChildBit, LpmEntry, ChildCoverEntry, DataTier, ChildTier, Longest}
use Rattle.readings.specs.declared.Reading.{Reading}
use Rattle.readings.specs.declared.Reading.TheVariants.{Number, Said}
use Rattle.readings.specs.Reading.{reading_of}

pub record Row : Type 0 where
  pub input : Input
  pub result : Reading

abbrev pub row : Input → Reading → Row
row i r = record { input = i; result = r }

abbrev pub starred : List Row
starred =
    row (DataBit 0x0a00_0113 32) (Number 6)
    ∷ row (LpmMask 30 0x0a00_0113 32) (Number 69)
    ∷ row (DataBit 0x0a00_0100 27) (Number 3)
    ∷ row (ChildBit 25 0x0a00_0113) (Number 4)
    ∷ row (LpmEntry 4 8) (Number 8_390_693)
    ∷ row (ChildCoverEntry 1 8) (Number 0xffff_0000)
    ∷ row (DataTier 24) (Number 5)
    ∷ row (ChildTier 24) (Number 5)
    ∷ row (DataTier 25) (Number 6)
    ∷ row (ChildTier 25) (Number 6)
    ∷ row (DataTier 2) (Number 1)
    ∷ row (ChildTier 2) (Number 1)
    ∷ row (Longest 1 0x0a00_0100 26) (Said 2 0 6 0 0)
    ∷ row (Longest 1 0x0a00_0100 27) (Said 0 27 6 0x0a00_0100 7)
    ∷ row (Longest 2 0x0a00_0113 32) (Said 0 32 7 0x0a00_0113 9)
    ∷ row (Longest 2 0x0a00_0112 32) (Said 0 27 7 0x0a00_0100 7)
    ∷ row (Longest 0 0x0a00_0113 32) (Said 2 0 1 0 0)
    ∷ []

-- each row's input gives its result
abbrev pub AllHold : List Row → Type 0
AllHold [] = Unit
AllHold (r ∷ rs) = (reading_of r.input ≡ r.result) × AllHold rs
