-- Laws of trees of live rules: the fresh one, the shape they all have, the nodes of a path, and the children of each node. Assumes nothing.
use mathlib.Core.Path.{◌≡◌, refl, sym, ap, ◌∙◌}
use mathlib.Core.Logic.{inr}
use mathlib.Core.Bool.{Bool, true, false, ◌||◌, false≢true}
use mathlib.Core.Option.{some, none-ne-some}
use mathlib.Core.List.{[]}
use Prim.Native.Nat.{ℕ, zero, suc, ◌+◌, ◌*◌, ◌/◌, ◌%◌, ◌^◌, ◌≤◌, ◌<◌}
use native.Mathlib.Nat.{le_refl}
use native.Mathlib.Decide.{dec_le}
use native.Mathlib.Omega.{arith}
use lib.Dec.{eqb}
use lib.Pow.{pow_pos}
use borrow.Author.Tests.{eqb-true, ne_eqb}
use Rattle.bits.specs.Bits.{one}
use Rattle.prefix.specs.Prefix.{width, first}
use Rattle.prefix.proofs.Covering.{fails}
use Rattle.tiers.specs.Tiers.{stride}
use Rattle.places.proofs.Prefixes.{data_lt}
use Rattle.rules.specs.Rules.{Rules, value_at, IsPrefix, Proper}
use Rattle.rules.specs.Nodes.{depth, passed, node, child_count}
use Rattle.rules.proofs.Tests.{clash}
use Rattle.rules.proofs.Sums.{sum_same}
use Rattle.rules.proofs.NodeSet.{Fixed, node_fixed, live_node, node_root, node_parent, node_deep}
use Rattle.rules.proofs.Always.{some_value}
use Rattle.rules.proofs.InUse.{depth_next}
use Rattle.pools.specs.Items.{items}
use Rattle.image.specs.Numbers.{node_no, path_no, rule_no}
use Rattle.image.specs.Tree.{Shape, Tree}
use Rattle.image.proofs.Paths.{next_power, node_inj, path_low, rule_node}

-- ---- numbers of children

-- the child c of a node has the node's bits and then c
pub child_number : (j b c : ℕ) → 32 * node_no (depth j) b + c ≡ node_no (depth (suc j)) (b * 32 + c)
child_number j b c = omega (arith, next_power j)

-- which are bits of a node one level down
pub child_low : (j b c : ℕ) → b < 2 ^ depth j → c < 32 → b * 32 + c < 2 ^ depth (suc j)
child_low j b c hb hc = omega (arith, next_power j)

-- below the root no number is below 32
node_far : (j b : ℕ) → 32 ≤ node_no (depth (suc j)) b
node_far j b = omega (arith, next_power j, pow_pos (depth j))

module _ {Value : Type 0} where
  -- ---- live rules

  -- and its length is at most 32
  pub live_short : (rs : Rules Value) → Proper rs → (k l : ℕ) (v : Value) → value_at rs k l ≡ some v → l ≤ width
  live_short rs p k l v e = go (dec_le l width)
    where
      there : Fixed rs l (first l k)
      there = record { key = k; len = l; value = v; alive = e; long = le_refl l; bits = refl }

      go : Dec (l ≤ width) → l ≤ width
      go (yes h) = h
      go (no h) = clash (node rs l (first l k)) ((node_fixed rs l (first l k)).1 (inr there)) (node_deep rs p l (first l k) (omega arith))

  -- ---- the fresh tree

  -- a fresh tree is the root alone, with no rule
  pub tree_fresh : {val : ℕ → Value} → Tree {Value = Value} [] (λ x. eqb x 1) (λ x. false) val
  unfolding value_at node passed
  tree_fresh = record {
    node_is = λ j b hj hb. nodes j b hb;
    node_only = λ x e. (0, 0, omega arith, omega arith, eqb-true x 1 e);
    rule_is = λ key len prefix. refl;
    rule_only = λ x e. absurd (false≢true e);
    value_is = λ key len v prefix e. absurd (none-ne-some v e);
  }
    where
      nodes : (j b : ℕ) → b < 2 ^ depth j → eqb (node_no (depth j) b) 1 ≡ node {Value = Value} [] (depth j) b
      nodes j b = elim j as (λ j. b < 2 ^ depth j → eqb (node_no (depth j) b) 1 ≡ node {Value = Value} [] (depth j) b) [
        | zero ↦ λ hb. let z : b ≡ 0 = omega arith in rw z (sym (node_root {Value = Value} [] 0))
        | suc j ↦ λ hb. unfold node passed in
            (ne_eqb (node_no (depth (suc j)) b) 1 (λ e. omega (arith, node_far j b)) ∙ sym (ap (λ (x : Bool). x || false) (ne_eqb (depth (suc j)) 0 (λ e. omega arith))))
      ]

  module _ {rs : Rules Value} {E D : ℕ → Bool} {val : ℕ → Value} (tree : Tree rs E D val) where
    -- a node of a key's path is there or not as the live rules say
    pub path_there : (key j : ℕ) → key < 2 ^ width → j ≤ 6 → E (path_no key j) ≡ node rs (depth j) (first (depth j) key)
    path_there key j h l = tree.node_is j (first (depth j) key) l (path_low key j h l)

    -- a rule that is there is live
    pub rule_live : (key len : ℕ) → IsPrefix key len → D (rule_no key len) ≡ true → (v : Value) × (value_at rs key len ≡ some v)
    rule_live key len prefix e = some_value (value_at rs key len) (sym (tree.rule_is key len prefix) ∙ e)

  module _ {rs : Rules Value} {E D : ℕ → Bool} {val : ℕ → Value} (proper : Proper rs) (tree : Tree rs E D val) where
    -- a node of any level is there or not as the live rules say: none is deeper than level 6
    pub tree_node : (j b : ℕ) → b < 2 ^ depth j → E (node_no (depth j) b) ≡ node rs (depth j) b
    tree_node j b hb = go (dec_le j 6)
      where
        go : Dec (j ≤ 6) → E (node_no (depth j) b) ≡ node rs (depth j) b
        go (yes h) = tree.node_is j b h hb
        go (no h) = fails (E (node_no (depth j) b)) deep ∙ sym (node_deep rs proper (depth j) b (omega arith))
          where
            deep : E (node_no (depth j) b) ≡ true → ⊥
            deep e =
                let n = tree.node_only (node_no (depth j) b) e in
                omega (arith, n.2, (node_inj j n.0 b n.1 hb n.3 n.4).0)

    -- a node's children in the tree are as many as the live rules give it
    pub children_are : (j b : ℕ) → j ≤ 6 → b < 2 ^ depth j → items E (node_no (depth j) b) ≡ child_count rs (depth j) b
    unfolding child_count
    children_are j b hj hb = sum_same 32 _ _ (λ c hc. ap one (child c hc))
      where
        child : (c : ℕ) → c < 32 → E (32 * node_no (depth j) b + c) ≡ node rs (depth j + stride) (b * 2 ^ stride + c)
        child c hc =
            ap E (child_number j b c) ∙ tree_node (suc j) (b * 32 + c) (child_low j b c hb hc) ∙ ap (λ (d : ℕ). node rs d (b * 32 + c)) (depth_next j)

    -- every tree has its shape
    pub tree_shape : Shape E D
    tree_shape = record {
      root = tree.node_is 0 0 (omega arith) (omega arith) ∙ node_root rs 0;
      alone = λ x h e. let n = tree.node_only x e in alone x h n.0 n.1 n.3 n.4;
      parent = λ x h e. let n = tree.node_only x e in parent x h n.0 n.1 n.2 n.3 n.4 e;
      holder = λ x e. let n = tree.rule_only x e in holder x n.0 n.1 n.2 n.3 e;
      low = λ n. fails (D (32 * n + 31)) (λ e. let r = tree.rule_only (32 * n + 31) e in omega (arith, r.3, data_lt r.0 r.1));
    }
      where
        alone : (x : ℕ) → x < 32 → (j b : ℕ) → b < 2 ^ depth j → x ≡ node_no (depth j) b → x ≡ 1
        alone x h zero b hb e = omega arith
        alone x h (suc j) b hb e = absurd (omega (arith, node_far j b))

        parent : (x : ℕ) → 32 ≤ x → (j b : ℕ) → j ≤ 6 → b < 2 ^ depth j → x ≡ node_no (depth j) b → E x ≡ true → E (x / 32) ≡ true
        parent x h zero b hj hb e t = absurd (omega arith)
        parent x h (suc j) b hj hb e t =
            let q : x / 32 ≡ node_no (depth j) (b / 32) = omega (arith, next_power j) in
            let s : b ≡ b / 32 * 32 + b % 32 = omega arith in
            let n : node rs (depth (suc j)) b ≡ true = sym (tree.node_is (suc j) b hj hb) ∙ ap E (sym e) ∙ t in
            let m : node rs (depth j + stride) (b / 32 * 2 ^ stride + b % 32) ≡ true = rw (depth_next j, s) at n in
            ap E q ∙ tree.node_is j (b / 32) (omega arith) (omega (arith, next_power j)) ∙ node_parent rs (depth j) (b / 32) (b % 32) (omega arith) (omega arith) m

        holder : (x key len : ℕ) → IsPrefix key len → x ≡ rule_no key len → D x ≡ true → E (x / 32) ≡ true
        holder x key len prefix e t =
            let v = rule_live tree key len prefix (ap D (sym e) ∙ t) in
            ap (λ (y : ℕ). E (y / 32)) e
            ∙ ap E (rule_node key len)
            ∙ path_there tree key (len / stride) prefix.bits (omega (arith, prefix.short))
            ∙ live_node rs key len v.0 v.1
