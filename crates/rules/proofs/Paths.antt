-- Laws of a prefix's path: its existing nodes are the upper ones, so node counts say which they are. Assumes nothing.
use mathlib.Core.Path.{◌≡◌, refl, sym, ap, ◌∙◌, subst}
use mathlib.Core.Bool.{Bool, true, false, ◌&&◌, and-eq-true_iff}
use mathlib.Core.Option.{some}
use Prim.Native.Nat.{ℕ, zero, suc, ◌/◌, ◌≤◌, ◌<◌}
use native.Mathlib.Nat.{le_refl}
use native.Mathlib.Omega.{arith}
use lib.Dec.{leb, ltb}
use borrow.Author.Tests.{leb-true, ltb-true, le-leb, lt-ltb}
use Rattle.bits.specs.Bits.{one}
use Rattle.prefix.specs.Prefix.{width, first}
use Rattle.prefix.proofs.Masking.{first_fewer}
use Rattle.tiers.specs.Tiers.{stride}
use Rattle.rules.specs.Rules.{Rules, value_at, shortest, Answer, nothing, found}
use Rattle.rules.specs.Nodes.{depths, depth, home, node, node_count, count_to, shortest_count}
use Rattle.rules.specs.Answers.{Shortest}
use Rattle.rules.proofs.Sums.{sum_same, count_le, count_first}
use Rattle.rules.proofs.NodeSet.{live_node, node_root, node_above}
use Rattle.rules.proofs.Matching.{covering_here, shortest_right}

module _ {Value : Type 0} where
  -- the path's node at depth 5 j, where that depth is not above the length
  abbrev on_path : Rules Value → ℕ → ℕ → ℕ → Bool
  on_path rs key len j = leb (depth j) len && node rs (depth j) (first (depth j) key)

  -- a node count is never above seven
  pub count_seven : (rs : Rules Value) (key len : ℕ) → node_count rs key len ≤ 7
  unfolding node_count
  count_seven rs key len = count_le 7 (on_path rs key len)

  -- of shortest neither
  pub shortest_seven : (rs : Rules Value) (key len : ℕ) → shortest_count rs key len ≤ 7
  unfolding shortest_count
  shortest_seven rs key len = go (shortest rs key len)
    where
      go : (a : Answer Value) → count_to rs key len a ≤ 7
      go nothing = count_seven rs key len
      go (found k l v) = count_seven rs key _

  module _ (rs : Rules Value) (key len : ℕ) where
    up : (j : ℕ) → on_path rs key len (suc j) ≡ true → on_path rs key len j ≡ true
    up j e =
        let h = (and-eq-true_iff (leb (depth (suc j)) len) (node rs (depth (suc j)) (first (depth (suc j)) key))).0 e in
        (and-eq-true_iff (leb (depth j) len) (node rs (depth j) (first (depth j) key))).1
        (le-leb (depth j) len (omega (arith, leb-true (depth (suc j)) len h.0)), node_above rs key (depth j) (depth (suc j)) (omega arith) h.1)

    counted : (j : ℕ) → j < 7 → on_path rs key len j ≡ ltb j (node_count rs key len)
    unfolding node_count
    counted j h = count_first 7 (on_path rs key len) up j h

    -- the root is counted
    pub count_root : 1 ≤ node_count rs key len
    count_root = ltb-true 0 (node_count rs key len) (sym (counted 0 (omega arith)) ∙ (rw (node_root rs (first 0 key), le-leb 0 len (omega arith))))

    module _ (short : len ≤ width) where
      -- of the depths not above the length, those with a node are the first ones
      pub path_node : (j : ℕ) → j ≤ len / stride → node rs (depth j) (first (depth j) key) ≡ ltb j (node_count rs key len)
      path_node j h = (rw (le-leb (depth j) len (omega arith)) at (counted j (omega arith)))

      -- as many as there are depths at the most
      pub count_path : node_count rs key len ≤ suc (len / stride)
      count_path = le (node_count rs key len) (count_seven rs key len) (λ j h l. fits j (rw (counted j l) (lt-ltb j (node_count rs key len) h)))
        where
          fits : (j : ℕ) → on_path rs key len j ≡ true → j ≤ len / stride
          fits j e =
              let h = (and-eq-true_iff (leb (depth j) len) (node rs (depth j) (first (depth j) key))).0 e in
              omega (arith, leb-true (depth j) len h.0)

          le : (n : ℕ) → n ≤ 7 → ((j : ℕ) → j < n → j < 7 → j ≤ len / stride) → n ≤ suc (len / stride)
          le zero h f = omega arith
          le (suc n) h f = omega (arith, f n (omega arith) (omega arith))

      -- every depth has a node exactly where the lowest has
      pub count_whole : ((j : ℕ) → j ≤ len / stride → node rs (depth j) (first (depth j) key) ≡ true) → node_count rs key len ≡ suc (len / stride)
      count_whole h =
          let e : ltb (len / stride) (node_count rs key len) ≡ true = sym (path_node (len / stride) (le_refl (len / stride))) ∙ h (len / stride) (le_refl (len / stride)) in
          let l : len / stride < node_count rs key len = ltb-true (len / stride) (node_count rs key len) e in
          omega (arith, count_path)

  -- the count goes by the nodes alone
  pub count_same : (rs rs' : Rules Value) (key len : ℕ) → ((d b : ℕ) → node rs' d b ≡ node rs d b) → node_count rs' key len ≡ node_count rs key len
  unfolding node_count
  count_same rs rs' key len h = sum_same 7 _ _ (λ j l. rw (h (depth j) (first (depth j) key)))

  -- and by as many bits of the key as the query has
  pub count_bits : (rs : Rules Value) (p q len : ℕ) → first len p ≡ first len q → node_count rs p len ≡ node_count rs q len
  unfolding node_count
  count_bits rs p q len e = sum_same depths _ _ (λ j h. ap one (go j (leb (depth j) len) refl))
    where
      go : (j : ℕ) (x : Bool) → leb (depth j) len ≡ x
          → leb (depth j) len && node rs (depth j) (first (depth j) p) ≡ leb (depth j) len && node rs (depth j) (first (depth j) q)
      go j true h = rw (h, first_fewer p q (depth j) len (leb-true (depth j) len h) e)
      go j false h = rw h

  -- a stored prefix has all its nodes
  pub count_live : (rs : Rules Value) (k l : ℕ) (v : Value) → l ≤ width → value_at rs k l ≡ some v → node_count rs k l ≡ suc (l / stride)
  count_live rs k l v h e = count_whole rs k l h (λ j i. node_above rs k (depth j) (home l) (omega arith) (live_node rs k l v e))

  -- where shortest finds a rule of length l, it counts floor (l / 5) + 1 nodes
  pub shortest_count_lem : (rs : Rules Value) (key len k l : ℕ) (v : Value) → len ≤ width → shortest rs key len ≡ found k l v
      → shortest_count rs key len ≡ suc (l / stride)
  unfolding shortest_count
  shortest_count_lem rs key len k l v h e =
      let b : Shortest rs key len (found k l v) = subst (Shortest rs key len) e (shortest_right rs key len) in
      ap (count_to rs key len) e ∙ count_live rs key l v (omega (arith, b.covering.covers.shorter)) (covering_here rs key len k l v b.covering)
