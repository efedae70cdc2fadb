-- The nodes that live rules fix, their counts, and the node count of a lookup (document 01, "The block ledger", "The node count"). Assumes nothing.
-- A node is known by its depth d and its d leading bits, a number b below 2 ^ d: on a key's path they are `first d key`.
use Rattle.std.specs.Prelude.{Bool, false, ◌&&◌, ◌||◌, [], ◌∷◌, ℕ, suc, ◌+◌, ◌*◌, ◌/◌, ◌^◌, leb, eqb}
use Rattle.bits.specs.Bits.{one}
use Rattle.prefix.specs.Prefix.{width, first}
use Rattle.tiers.specs.Tiers.{stride}
use Rattle.rules.specs.Sums.{sum}
use Rattle.rules.specs.Rules.{Rules, Answer, nothing, found, shortest}

-- nodes stand at seven depths
abbrev pub depths : ℕ
depths = suc (width / stride)

-- 0, 5, ... 30
abbrev pub depth : ℕ → ℕ
depth j = stride * j

-- the depth where a length lives: 5 * floor (length / 5)
abbrev pub home : ℕ → ℕ
home len = depth (len / stride)

-- a prefix has length at least d and those d leading bits
abbrev pub passes : ℕ → ℕ → ℕ → ℕ → Bool
passes key len d b = leb d len && eqb (first d key) b

-- a prefix lives at the node: at its depth, with its bits
abbrev pub lives_at : ℕ → ℕ → ℕ → ℕ → Bool
lives_at key len d b = eqb (home len) d && eqb (first d key) b

module _ {Value : Type 0} where
  -- some live rule of length at least d has those d leading bits
  unfoldable pub passed : Rules Value → ℕ → ℕ → Bool
  passed [] d b = false
  passed (r ∷ rs) d b = passes r.key r.len d b || passed rs d b

  -- the nodes: the root, and each depth d above 0 where some live rule of length at least d has those d leading bits
  unfoldable pub node : Rules Value → ℕ → ℕ → Bool
  node rs d b = eqb d 0 || passed rs d b

  -- a node's data count: the live rules that live there
  unfoldable pub data_count : Rules Value → ℕ → ℕ → ℕ
  data_count [] d b = 0
  data_count (r ∷ rs) d b = one (lives_at r.key r.len d b) + data_count rs d b

  -- a node's child count: the nodes one stride below whose bits begin with its own
  unfoldable pub child_count : Rules Value → ℕ → ℕ → ℕ
  child_count rs d b = sum (2 ^ stride) (λ c. one (node rs (d + stride) (b * 2 ^ stride + c)))

  -- the node count of exact and longest: how many depths 0, 5, ... 30, not above the query's length, have a node on its path
  unfoldable pub node_count : Rules Value → ℕ → ℕ → ℕ
  node_count rs key len = sum depths (λ j. one (leb (depth j) len && node rs (depth j) (first (depth j) key)))

  -- the same, but where a rule is found, only depths not above the found length
  abbrev pub count_to : Rules Value → ℕ → ℕ → Answer Value → ℕ
  count_to rs key len nothing = node_count rs key len
  count_to rs key len (found p l v) = node_count rs key l

  -- the node count of shortest
  unfoldable pub shortest_count : Rules Value → ℕ → ℕ → ℕ
  shortest_count rs key len = count_to rs key len (shortest rs key len)
