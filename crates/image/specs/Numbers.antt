-- Numbers for nodes and for the rules in them: the children of node n are 32 n + c, its rules 32 n + data bit. Assumes nothing.
-- A notion of the proofs: no promise cites it.
use Rattle.std.specs.Prelude.{Bool, true, false, ℕ, zero, suc, ◌+◌, ◌*◌, ◌/◌, ◌^◌}
use Rattle.prefix.specs.Prefix.{first}
use Rattle.tiers.specs.Tiers.{stride}
use Rattle.places.specs.Places.{data_bit}
use Rattle.rules.specs.Nodes.{depth}
use Rattle.pools.specs.Items.{upd}

-- the node with d leading bits b; the root is 1
abbrev pub node_no : ℕ → ℕ → ℕ
node_no d b = 2 ^ d + b

-- the node of level j on a key's path
abbrev pub path_no : ℕ → ℕ → ℕ
path_no key j = node_no (depth j) (first (depth j) key)

-- the rule of a prefix, in the node where its length lives
abbrev pub rule_no : ℕ → ℕ → ℕ
rule_no key len = 32 * path_no key (len / stride) + data_bit key len

-- the nodes E with n more of a key's path, below level i
unfoldable pub with_path : (ℕ → Bool) → ℕ → ℕ → ℕ → ℕ → Bool
with_path E key i zero = E
with_path E key i (suc n) = with_path (upd E (path_no key (suc i)) true) key (suc i) n

-- the nodes E without n of a key's path, from level i up; never the root
unfoldable pub without_path : (ℕ → Bool) → ℕ → ℕ → ℕ → ℕ → Bool
without_path E key i zero = E
without_path E key zero (suc n) = E
without_path E key (suc i) (suc n) = without_path (upd E (path_no key (suc i)) false) key i n
