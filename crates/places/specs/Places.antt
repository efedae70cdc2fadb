-- Where a prefix stands in the tree (document 01, "Node bits"), and which prefix a bit stands for. Assumes nothing.
use Rattle.std.specs.Prelude.{Bool, ◌&&◌, ℕ, ◌+◌, ◌-◌, ◌*◌, ◌/◌, ◌%◌, ◌^◌, leb, eqb}
use Rattle.bits.specs.Bits.{one}
use Rattle.prefix.specs.Prefix.{width, first, masked}
use Rattle.tiers.specs.Tiers.{stride}

-- a length lives at this depth, at this level
abbrev pub depth_of : ℕ → ℕ
depth_of len = stride * (len / stride)

abbrev pub level_in : ℕ → ℕ
level_in len = len % stride

-- the w key bits after the depth d, with zeros past the key's end
unfoldable pub window : ℕ → ℕ → ℕ → ℕ
window key d w = key * 2 ^ stride / 2 ^ (width + stride - d - w) % 2 ^ w

-- what is left of a key after the depth d: its first d bits fall off at the top, and zeros follow
unfoldable pub rest_at : ℕ → ℕ → ℕ
rest_at key d = key * 2 ^ d % 2 ^ width

-- the data bit of a prefix: 2 ^ level - 1, plus the first `level` key bits after the depth
unfoldable pub data_bit : ℕ → ℕ → ℕ
data_bit key len = (2 ^ level_in len - 1) + first len key % 2 ^ level_in len

-- the child of a key: the five key bits after the depth
unfoldable pub child_bit : ℕ → ℕ → ℕ
child_bit d key = first (d + stride) key % 2 ^ stride

-- ---- the way back: data bit b stands at a level, for a path of that many bits

unfoldable pub level_of : ℕ → ℕ
level_of b = one (leb 1 b) + one (leb 3 b) + one (leb 7 b) + one (leb 15 b)

unfoldable pub path_of : ℕ → ℕ
unfolding level_of
path_of b = b - (2 ^ level_of b - 1)

-- the prefix that data bit b stands for in the node of `key` at depth d: its length and its key
unfoldable pub length_at : ℕ → ℕ → ℕ
length_at d b = d + level_of b

unfoldable pub key_at : ℕ → ℕ → ℕ → ℕ
key_at d key b = masked key d + path_of b * 2 ^ (width - (d + level_of b))

-- the key that child c of the node of `key` at depth d begins with: c follows the first d bits. At depth 30 all but two bits of c fall off
unfoldable pub child_key : ℕ → ℕ → ℕ → ℕ
child_key d key c = masked key d + c * 2 ^ width / 2 ^ (d + stride)

-- ---- covering inside a node, among paths

-- the path p of l bits begins the path q of m bits
abbrev pub begins : ℕ → ℕ → ℕ → ℕ → Bool
begins l p m q = leb l m && eqb (q / 2 ^ (m - l)) p

-- the path of a query of length len at least d in the node at depth d: its key bits from d on
unfoldable pub path_in : ℕ → ℕ → ℕ → ℕ
path_in d key len = first len key % 2 ^ (len - d)
