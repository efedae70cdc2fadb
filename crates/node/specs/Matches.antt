-- The longest and the shortest rule of a node that cover a query, by scanning the lengths that the node holds. Assumes nothing.
use Rattle.std.specs.Prelude.{cond, Option, Some, None, ℕ, zero, suc, ◌+◌, ◌-◌, min}
use Rattle.std.specs.Int.Bits.{bit_and}
use Rattle.bits.specs.Bits.{has}
use Rattle.places.specs.Places.{data_bit}
use Rattle.node.specs.Masks.{data_lpm}

-- the rule of the key's first l bits, if the node holds it, else the other
unfoldable pub found_or : ℕ → ℕ → ℕ → Option ℕ → Option ℕ
found_or bitmap key l other = cond (has bitmap (data_bit key l)) (Some (data_bit key l)) other

-- lengths from d + n down to d
unfoldable pub longest_from : ℕ → ℕ → ℕ → ℕ → Option ℕ
longest_from bitmap key d zero = found_or bitmap key d None
longest_from bitmap key d (suc n) = found_or bitmap key (d + suc n) (longest_from bitmap key d n)

-- lengths from l up to l + n
unfoldable pub shortest_from : ℕ → ℕ → ℕ → ℕ → Option ℕ
shortest_from bitmap key l zero = found_or bitmap key l None
shortest_from bitmap key l (suc n) = found_or bitmap key l (shortest_from bitmap key (suc l) n)

-- a node holds five lengths from its depth on; the query's length bounds them
unfoldable pub longest_in : ℕ → ℕ → ℕ → ℕ → Option ℕ
longest_in bitmap d key len = longest_from bitmap key d (min 4 (len - d))

unfoldable pub shortest_in : ℕ → ℕ → ℕ → ℕ → Option ℕ
shortest_in bitmap d key len = shortest_from bitmap key d (min 4 (len - d))

-- the bits that the bitmap and the query's mask share
abbrev pub shared : ℕ → ℕ → ℕ → ℕ → ℕ
shared bitmap d key len = bit_and bitmap (data_lpm d key len)
