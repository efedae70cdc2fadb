-- What each input of the list gives, by the leaves' and the map's own definitions. Assumes nothing.
use Rattle.std.specs.Prelude.{cond, ◌%◌, leb, ltb, eqb}
use Rattle.bits.specs.Bits.{word}
use Rattle.prefix.specs.Prefix.{width}
use Rattle.tiers.specs.Tiers.{stride, data_spacings, child_spacings, tier_of}
use Rattle.places.specs.Places.{data_bit, child_bit}
use Rattle.patterns.specs.Patterns.{is_ancestor, is_child_below}
use Rattle.node.specs.Masks.{data_lpm}
use Rattle.readings.specs.declared.Input.{Input}
use Rattle.readings.specs.declared.Input.TheVariants.{DataBit, LpmMask, ChildBit, LpmEntry, ChildCoverEntry, DataTier, ChildTier, Longest}
use Rattle.readings.specs.declared.Reading.{Reading}
use Rattle.readings.specs.declared.Reading.TheVariants.{Number, Outside}
use Rattle.readings.specs.Small.{lent, longest_after, said_of}

unfoldable pub reading_of : Input → Reading
reading_of (DataBit key len) = cond (leb len width) (Number (data_bit key len)) Outside
reading_of (LpmMask depth key len) =
    cond (eqb (depth % stride) 0) (cond (leb depth len) (cond (leb len width) (Number (data_lpm depth key len)) Outside) Outside) Outside
reading_of (ChildBit depth key) = cond (leb depth 27) (Number (child_bit depth key)) Outside
reading_of (LpmEntry level place) = cond (ltb level 5) (cond (ltb place 16) (Number (word 32 (is_ancestor level place))) Outside) Outside
reading_of (ChildCoverEntry level place) = cond (ltb level 5) (cond (ltb place 16) (Number (word 32 (is_child_below level place))) Outside) Outside
reading_of (DataTier count) = Number (tier_of data_spacings count)
reading_of (ChildTier count) = Number (tier_of child_spacings count)
reading_of (Longest rules key len) = cond (leb rules 2) (said_of (longest_after lent rules key len)) Outside
