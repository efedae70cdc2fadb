-- A set of nodes E and a set of rules D with values: what shape they have, and that they are those of live rules. Assumes nothing.
-- A notion of the proofs: no promise cites it.
use Rattle.std.specs.Prelude.{◌≡◌, Bool, true, false, ℕ, ◌+◌, ◌*◌, ◌/◌, ◌^◌, ◌≤◌, ◌<◌}
use Rattle.std.proofs.Math.Option.{some}
use Rattle.rules.specs.Rules.{Rules, value_at, is_live, IsPrefix}
use Rattle.rules.specs.Nodes.{depth, node}
use Rattle.image.specs.Numbers.{node_no, rule_no}

-- the root is there, and no other node without a parent; nodes and rules hang on nodes; no rule has data bit 31
pub record Shape (E D : ℕ → Bool) : Type 0 where
  pub root : E 1 ≡ true
  pub alone : (x : ℕ) → x < 32 → E x ≡ true → x ≡ 1
  pub parent : (x : ℕ) → 32 ≤ x → E x ≡ true → E (x / 32) ≡ true
  pub holder : (x : ℕ) → D x ≡ true → E (x / 32) ≡ true
  pub low : (n : ℕ) → D (32 * n + 31) ≡ false

-- the nodes and the rules are those that the live rules fix
pub record Tree {Value : Type 0} (rs : Rules Value) (E D : ℕ → Bool) (val : ℕ → Value) : Type 0 where
  pub node_is : (j b : ℕ) → j ≤ 6 → b < 2 ^ depth j → E (node_no (depth j) b) ≡ node rs (depth j) b
  pub node_only : (x : ℕ) → E x ≡ true → (j : ℕ) × (b : ℕ) × (j ≤ 6) × (b < 2 ^ depth j) × (x ≡ node_no (depth j) b)
  pub rule_is : (key len : ℕ) → IsPrefix key len → D (rule_no key len) ≡ is_live rs key len
  pub rule_only : (x : ℕ) → D x ≡ true → (key : ℕ) × (len : ℕ) × IsPrefix key len × (x ≡ rule_no key len)
  pub value_is : (key len : ℕ) (v : Value) → IsPrefix key len → value_at rs key len ≡ some v → val (rule_no key len) ≡ v
