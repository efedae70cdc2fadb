-- The order of what a node holds: by masked key, then by length (document 01, "Order tables"). Assumes nothing.
use Rattle.std.specs.Prelude.{◌≡◌, Bool, true, ◌&&◌, ◌||◌, not, ℕ, zero, suc, ◌+◌, ◌-◌, ◌*◌, ◌^◌, ltb, eqb}
use Rattle.bits.specs.Bits.{one, word}
use Rattle.tiers.specs.Tiers.{stride}
use Rattle.places.specs.Places.{level_of, path_of}
use Rattle.order.specs.declared.LexElem.{LexElem}
use Rattle.order.specs.declared.LexMasks.{LexMasks}
use Rattle.order.specs.declared.BitPrefix.{BitPrefix}
use Rattle.order.specs.declared.LexElem.TheVariants.{Data, Child}

-- an element's length in the node, and its path filled up with zeros to the node's five bits
abbrev pub length_in : LexElem → ℕ
length_in (Data b) = level_of b
length_in (Child c) = stride

abbrev pub key_in : LexElem → ℕ
key_in (Data b) = path_of b * 2 ^ (stride - level_of b)
key_in (Child c) = c

-- e comes before f
unfoldable pub comes_before : LexElem → LexElem → Bool
comes_before e f = ltb (key_in e) (key_in f) || (eqb (key_in e) (key_in f) && ltb (length_in e) (length_in f))

-- how many numbers below n the test picks
unfoldable pub how_many : ℕ → (ℕ → Bool) → ℕ
how_many zero f = 0
how_many (suc n) f = how_many n f + one (f n)

-- a node has 31 data bits and 32 children
abbrev pub is_elem : LexElem → Bool
is_elem (Data b) = ltb b 31
is_elem (Child c) = ltb c 32

-- the place of an element: how many come before it
unfoldable pub place_of : LexElem → ℕ
place_of e = how_many 31 (λ b. comes_before (Data b) e) + how_many 32 (λ c. comes_before (Child c) e)

-- what stands at an element or after it
unfoldable pub data_from : LexElem → ℕ → Bool
data_from e b = ltb b 31 && not (comes_before (Data b) e)

-- what stands after an element
unfoldable pub data_after : LexElem → ℕ → Bool
data_after e b = ltb b 31 && comes_before e (Data b)

unfoldable pub child_after : LexElem → ℕ → Bool
child_after e c = comes_before e (Child c)

-- e is an element of a node, and just `place` elements come before it
pub record AtPlace (place : ℕ) (e : LexElem) : Type 0 where
  pub there : is_elem e ≡ true
  pub place_is : place_of e ≡ place

-- the elements at data bit b or after it
pub record FromData (b : ℕ) (m : LexMasks) : Type 0 where
  pub of_data : m.data_mask ≡ word 32 (data_from (Data b))
  pub of_child : m.child_mask ≡ word 32 (child_after (Data b))

-- the elements after child c
pub record AfterChild (c : ℕ) (m : LexMasks) : Type 0 where
  pub of_data : m.data_mask ≡ word 32 (data_after (Child c))
  pub of_child : m.child_mask ≡ word 32 (child_after (Child c))

-- data bit b's path filled up with zeros to four bits, and its level
pub record Offset (b : ℕ) (p : BitPrefix) : Type 0 where
  pub offset_is : p.offset ≡ path_of b * 2 ^ (4 - level_of b)
  pub level_is : p.level ≡ level_of b
