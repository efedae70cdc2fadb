-- Which bits of a node a query picks, by covering among paths in the node. Assumes nothing.
use Rattle.std.specs.Prelude.{◌≡◌, Bool, ◌&&◌, ℕ, ◌-◌, ◌%◌, ◌≤◌, ltb}
use Rattle.bits.specs.Bits.{word}
use Rattle.prefix.specs.Prefix.{width}
use Rattle.tiers.specs.Tiers.{stride}
use Rattle.places.specs.Places.{level_of, path_of, path_in, begins}

-- a node stands at depth d, and the query's length is at least that and at most the key's
pub record InTree (d len : ℕ) : Type 0 where
  pub node : d % stride ≡ 0
  pub from : d ≤ len
  pub within : len ≤ width

-- data bit i stands for a prefix that covers the query
unfoldable pub covers_query : ℕ → ℕ → ℕ → ℕ → Bool
covers_query d key len i = ltb i 31 && begins (level_of i) (path_of i) (len - d) (path_in d key len)

-- the query covers the prefix that data bit i stands for
unfoldable pub data_below : ℕ → ℕ → ℕ → ℕ → Bool
data_below d key len i = ltb i 31 && begins (len - d) (path_in d key len) (level_of i) (path_of i)

-- the query's length is in the node, and the query covers child i, whose path has five bits
unfoldable pub child_below : ℕ → ℕ → ℕ → ℕ → Bool
child_below d key len i = ltb (len - d) stride && begins (len - d) (path_in d key len) stride i

-- the masks of 32 bits
abbrev pub data_lpm : ℕ → ℕ → ℕ → ℕ
data_lpm d key len = word 32 (covers_query d key len)

abbrev pub data_cover : ℕ → ℕ → ℕ → ℕ
data_cover d key len = word 32 (data_below d key len)

abbrev pub child_cover : ℕ → ℕ → ℕ → ℕ
child_cover d key len = word 32 (child_below d key len)
