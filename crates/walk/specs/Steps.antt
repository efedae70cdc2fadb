-- One step of a walk (document 01, "Walk, insert, remove", and number 5's tests at a node). Assumes nothing.
use Rattle.std.specs.Prelude.{Bool, true, false, not, ◌&&◌, cond, List, Option, Some, None, Result, Ok, Err, ℕ, ◌+◌, ltb, leb, eqb}
use Rattle.bits.specs.Bits.{has, count, set_below}
use Rattle.tiers.specs.Tiers.{stride, child_spacings, data_spacings, spacing_of, tier_of, empty}
use Rattle.places.specs.Places.{child_bit}
use Rattle.node.specs.declared.MultiBitNode.{MultiBitNode}
use Rattle.refusals.specs.declared.Refusal.{Refusal}
use Rattle.refusals.specs.declared.Refusal.TheVariants.{Broken}

-- two tests agree
abbrev pub agree : Bool → Bool → Bool
agree true b = b
agree false b = not b

-- a node is whole: each bitmap is zero exactly where its index is empty, and no data bit 31
unfoldable pub sound_of : MultiBitNode → Bool
sound_of n =
    agree (eqb n.data_bitmap 0) (eqb n.data_idx.0 empty)
    && agree (eqb n.child_bitmap 0) (eqb n.children_idx.0 empty)
    && ltb n.data_bitmap 0x8000_0000

-- the two halves of that test: the rules' half, with bit 31, and the children's
unfoldable pub data_whole : MultiBitNode → Bool
data_whole n = agree (eqb n.data_bitmap 0) (eqb n.data_idx.0 empty) && ltb n.data_bitmap 0x8000_0000

unfoldable pub children_whole : MultiBitNode → Bool
children_whole n = agree (eqb n.child_bitmap 0) (eqb n.children_idx.0 empty)

-- a block of n items that starts at s lies wholly below the mark; a block is its whole spacing
abbrev pub block_within : List ℕ → ℕ → ℕ → ℕ → Bool
block_within kind lim n s = leb (s + spacing_of kind (tier_of kind n)) lim

unfoldable pub children_within : ℕ → ℕ → ℕ → Bool
children_within lim n s = block_within child_spacings lim n s

unfoldable pub data_within : ℕ → ℕ → ℕ → Bool
data_within lim n s = block_within data_spacings lim n s

-- on from the node x at depth d: down by child_bit while the child exists and its depth is at most the query's length. A step is the position
-- of the next node, none at the end of the path, or broken memory
unfoldable pub step_of : ℕ → ℕ → ℕ → ℕ → MultiBitNode → Result (Option ℕ) Refusal
step_of lim key len d x =
    cond (leb (d + stride) len)
    (cond (has x.child_bitmap (child_bit d key))
    (cond (children_within lim (count x.child_bitmap) x.children_idx.0)
    (Ok (Some (x.children_idx.0 + set_below x.child_bitmap (child_bit d key))))
    (Err Broken))
    (Ok None))
    (Ok None)
