-- What one rule more does to the blocks in use, over all nodes. Assumes nothing.
use mathlib.Core.Path.{◌≡◌, refl, sym, ap, ◌∙◌}
use mathlib.Core.Bool.{Bool, true, false, cond}
use Prim.Native.Nat.{ℕ, suc, ◌+◌, ◌-◌, ◌*◌, ◌/◌, ◌^◌, ◌≤◌, ◌<◌}
use native.Mathlib.Decide.{dec_le}
use native.Mathlib.Omega.{arith}
use borrow.Author.Tests.{lt-ltb, le-ltb}
use Rattle.bits.specs.Bits.{one}
use Rattle.prefix.specs.Prefix.{width, first}
use Rattle.prefix.proofs.Masking.{first_lt}
use Rattle.prefix.proofs.Covering.{fails}
use Rattle.tiers.specs.Tiers.{stride}
use Rattle.rules.specs.Sums.{sum}
use Rattle.rules.specs.Rules.{Rules, IsPrefix, Proper}
use Rattle.rules.specs.Nodes.{depths, depth, lives_at, node, data_count, child_count, node_count}
use Rattle.rules.specs.Ledger.{missing, lowest, children_on, data_on, over_nodes}
use Rattle.rules.proofs.Sums.{sum_same, sum_part, sum_at, sum_cross, sum_chain}
use Rattle.rules.proofs.Paths.{path_node, count_root}
use Rattle.rules.proofs.Adding.{Adds, lives_true, childless, data_more, children_off, children_kept, children_more}

-- a number of every node's count, summed, whether the node is there or not
unfoldable pub over_all : (ℕ → ℕ) → (ℕ → ℕ → ℕ) → ℕ
over_all f g = sum depths (λ j. sum (2 ^ depth j) (λ b. f (g (depth j) b)))

-- where 0 counts for nothing, only nodes that are there count
pub over_nodes_lem : {Value : Type 0} (rs : Rules Value) (f : ℕ → ℕ) (g : ℕ → ℕ → ℕ) → f 0 ≡ 0 → ((d b : ℕ) → node rs d b ≡ false → g d b ≡ 0)
    → over_nodes rs (λ d b. f (g d b)) ≡ over_all f g
unfolding over_nodes over_all
over_nodes_lem rs f g z h = sum_same depths _ _ (λ j hj. sum_same (2 ^ depth j) _ _ (λ b hb. go (depth j) b (node rs (depth j) b) refl))
  where
    go : (d b : ℕ) (x : Bool) → node rs d b ≡ x → cond (node rs d b) (f (g d b)) 0 ≡ f (g d b)
    go d b true e = rw e
    go d b false e = rw (e, h d b e) (sym z)

-- counts that differ on a key's path alone
pub over_path : (f : ℕ → ℕ) (g g' : ℕ → ℕ → ℕ) (k : ℕ) → k < 2 ^ width → ((d b : ℕ) → (first d k ≡ b → ⊥) → g' d b ≡ g d b)
    → over_all f g' + sum depths (λ j. f (g (depth j) (first (depth j) k))) ≡ over_all f g + sum depths (λ j. f (g' (depth j) (first (depth j) k)))
unfolding over_all
over_path f g g' k hk off =
    sum_cross depths _ _ _ _
    (λ j hj.
    sum_at (2 ^ depth j) (first (depth j) k) (λ b. f (g' (depth j) b)) (λ b. f (g (depth j) b)) (first_lt (depth j) hk (omega arith))
    (λ b hb ne. ap f (off (depth j) b ne)))

-- a node on a key's path counts
pub over_part : (f : ℕ → ℕ) (g : ℕ → ℕ → ℕ) (k j : ℕ) → k < 2 ^ width → j < depths → f (g (depth j) (first (depth j) k)) ≤ over_all f g
unfolding over_all
over_part f g k j hk hj =
    omega (
      arith,
      sum_part (2 ^ depth j) (first (depth j) k) (λ b. f (g (depth j) b)) (first_lt (depth j) hk (omega arith)),
      sum_part depths j (λ i. sum (2 ^ depth i) (λ b. f (g (depth i) b))) hj,
    )

pub depth_next : (j : ℕ) → depth (suc j) ≡ depth j + stride
depth_next j = omega arith

module _ {Value : Type 0} {k l : ℕ} {rs rs' : Rules Value} (prefix : IsPrefix k l) (proper : Proper rs) (adds : Adds k l rs rs') (f : ℕ → ℕ) where
  -- the count of the node where the rule lives rises by one
  pub data_in_use : over_all f (data_count rs') + f (data_on rs k l) ≡ over_all f (data_count rs) + f (suc (data_on rs k l))
  data_in_use =
      omega (arith, over_path f (data_count rs) (data_count rs') k prefix.bits (λ d b ne. same d b (λ e. ne (lives_true k l d b e).1)), on)
    where
      same : (d b : ℕ) → (lives_at k l d b ≡ true → ⊥) → data_count rs' d b ≡ data_count rs d b
      same d b n = adds.data' d b ∙ ap (λ (x : Bool). data_count rs d b + one x) (fails (lives_at k l d b) n) ∙ (omega arith)

      J : ℕ
      J = l / stride

      on : sum depths (λ j. f (data_count rs' (depth j) (first (depth j) k))) + f (data_on rs k l)
          ≡ sum depths (λ j. f (data_count rs (depth j) (first (depth j) k))) + f (suc (data_on rs k l))
      on =
          sum_at depths J (λ j. f (data_count rs' (depth j) (first (depth j) k))) (λ j. f (data_count rs (depth j) (first (depth j) k))) (omega (arith, prefix.short))
          (λ j hj ne. ap f (same (depth j) (first (depth j) k) (λ e. ne (omega (arith, (lives_true k l (depth j) (first (depth j) k) e).0)))))
          ∙ ap (λ (x : ℕ). sum depths (λ j. f (data_count rs (depth j) (first (depth j) k))) + f x) (data_more prefix adds)

  -- the path's counts of children, before and after
  abbrev before : ℕ → ℕ
  before j = f (child_count rs (depth j) (first (depth j) k))

  abbrev after : ℕ → ℕ
  after j = f (child_count rs' (depth j) (first (depth j) k))

  there : (j : ℕ) → suc j ≤ l / stride → suc j < node_count rs k l → after j ≡ before j
  there j h s =
      ap f (children_kept prefix adds (depth j) (rw (← depth_next j) (path_node rs k l prefix.short (suc j) h ∙ lt-ltb (suc j) (node_count rs k l) s)))

  ended : (j : ℕ) → l / stride ≤ j → after j ≡ before j
  ended j h = ap f (children_off prefix adds (depth j) (first (depth j) k) (λ le e. omega (arith, prefix.short)))

  fresh_child : (j : ℕ) → suc j ≤ l / stride → node_count rs k l ≤ suc j
      → child_count rs' (depth j) (first (depth j) k) ≡ suc (child_count rs (depth j) (first (depth j) k))
  fresh_child j h s =
      children_more prefix adds (depth j) (omega arith) (rw (← depth_next j) (path_node rs k l prefix.short (suc j) h ∙ le-ltb (suc j) (node_count rs k l) s))

  off_path : over_all f (child_count rs') + sum depths before ≡ over_all f (child_count rs) + sum depths after
  off_path = over_path f (child_count rs) (child_count rs') k prefix.bits (λ d b ne. children_off prefix adds d b (λ h e. ne e))

  -- the lowest existing node gets one child more
  pub lowest_more : (m : ℕ) → missing rs k l ≡ suc m → children_on rs' k (lowest rs k l) ≡ suc (children_on rs k (lowest rs k l))
  unfolding missing lowest
  lowest_more m e = let r = count_root rs k l in fresh_child (node_count rs k l - 1) (omega arith) (omega arith)

  -- with no node missing, no count of children changes
  pub nodes_in_use_same : missing rs k l ≡ 0 → over_all f (child_count rs') ≡ over_all f (child_count rs)
  unfolding missing
  nodes_in_use_same m = omega (arith, off_path, sum_same depths after before (λ j hj. go j (dec_le (suc j) (l / stride))))
    where
      go : (j : ℕ) → Dec (suc j ≤ l / stride) → after j ≡ before j
      go j (yes h) = there j h (omega arith)
      go j (no h) = ended j (omega arith)

  -- with m + 1 missing, the lowest existing node's count rises by one, and each missing node but the lowest has one child
  pub nodes_in_use_more : f 0 ≡ 0 → (m : ℕ) → missing rs k l ≡ suc m
      → over_all f (child_count rs') + f (children_on rs k (lowest rs k l))
      ≡ over_all f (child_count rs) + f (suc (children_on rs k (lowest rs k l))) + m * f 1
  unfolding missing lowest
  nodes_in_use_more z m e =
      let r = count_root rs k l in
      let w : l / stride - suc i ≡ m = omega arith in
      omega (arith, off_path, rw w at chain)
    where
      i : ℕ
      i = node_count rs k l - 1

      chain : sum depths after + f (child_count rs (depth i) (first (depth i) k))
          ≡ sum depths before + f (suc (child_count rs (depth i) (first (depth i) k))) + (l / stride - suc i) * f 1
      chain =
          let r = count_root rs k l in
          sum_chain depths i (l / stride) (before i) (f (suc (child_count rs (depth i) (first (depth i) k)))) (f 1) after before
          (omega arith) (omega (arith, prefix.short)) refl
          (ap f (fresh_child i (omega arith) (omega arith)))
          (λ j a b.
          let m : node rs (depth j) (first (depth j) k) ≡ false = path_node rs k l prefix.short j (omega arith) ∙ le-ltb j (node_count rs k l) (omega arith) in
          let n : child_count rs (depth j) (first (depth j) k) ≡ 0 = childless rs proper (depth j) (first (depth j) k) m in
          (ap f n ∙ z, ap f (fresh_child j (omega arith) (omega arith) ∙ ap suc n)))
          (λ j a. there j (omega arith) (omega arith))
          (λ j a. ended j a)
