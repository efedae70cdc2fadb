-- The test of a node, taken apart. Assumes nothing.
use mathlib.Core.Path.{◌≡◌}
use mathlib.Core.Bool.{Bool, true, false, ◌&&◌}
use Prim.Native.Nat.{ℕ, ◌<◌, ◌^◌}
use native.Mathlib.Omega.{arith}
use borrow.Author.Tests.{ltb-true}
use lib.Dec.{ltb, eqb}
use Rattle.bits.specs.Bits.{bit_at}
use Rattle.bits.proofs.BitByBit.{bit_high}
use Rattle.tiers.specs.Tiers.{empty}
use Rattle.node.specs.declared.MultiBitNode.{MultiBitNode}
use Rattle.walk.specs.Steps.{agree, sound_of}

-- a node that is whole has no data bit 31
pub sound_31 : (x : MultiBitNode) → sound_of x ≡ true → x.data_bitmap < 2 ^ 31
unfolding sound_of
sound_31 x h =
    go (agree (eqb x.data_bitmap 0) (eqb x.data_idx.0 empty)) (agree (eqb x.child_bitmap 0) (eqb x.children_idx.0 empty)) h
  where
    go : (a b : Bool) → (a && b && ltb x.data_bitmap 0x8000_0000) ≡ true → x.data_bitmap < 2 ^ 31
    go true true e = ltb-true x.data_bitmap 0x8000_0000 e
    go true false e = let z : ◌≡◌ {A = ℕ} 0 1 = cc in absurd (omega arith)
    go false b e = let z : ◌≡◌ {A = ℕ} 0 1 = cc in absurd (omega arith)

-- the same as a bit
pub sound_bit_31 : (x : MultiBitNode) → sound_of x ≡ true → bit_at x.data_bitmap 31 ≡ 0
sound_bit_31 x h = bit_high 31 (sound_31 x h)
