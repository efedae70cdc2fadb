-- An insert adds exactly the missing nodes of its path, a removal takes away exactly those that it empties; and it takes one block at the most. Assumes nothing.
use mathlib.Core.Path.{◌≡◌, refl, sym, ap, ◌∙◌}
use mathlib.Core.Logic.{◌↔◌}
use mathlib.Core.Bool.{Bool, true, false, cond, ◌||◌}
use mathlib.Core.Option.{some}
use mathlib.Core.List.{List, [], ◌∷◌, ◌++◌}
use Prim.Native.Nat.{ℕ, zero, suc, ◌+◌, ◌-◌, ◌/◌, ◌≤◌}
use native.Mathlib.Nat.{le_refl}
use native.Mathlib.Omega.{arith}
use lib.Dec.{ltb}
use borrow.Author.Tests.{ltb-true, ltb-false, le-ltb}
use Rattle.prefix.specs.Prefix.{first}
use Rattle.tiers.specs.Tiers.{stride}
use Rattle.rules.specs.Rules.{Rules, del, value_at, without, edited, IsPrefix, Proper}
use Rattle.rules.specs.Nodes.{depth, home, passes, node, node_count}
use Rattle.rules.specs.Account.{Kind, node_pool, cell_pool, tier, Move, takes, gives, lowers}
use Rattle.rules.specs.Ledger.{fall, times, nodes_go, missing, children_on, data_on, lowest, node_moves, cell_moves}
use Rattle.rules.proofs.Tests.{clash, or_left}
use Rattle.rules.proofs.NodeSet.{passes_true}
use Rattle.rules.proofs.Paths.{path_node}
use Rattle.rules.proofs.Adding.{Adds, adds_del, dataless, data_more, path_there}
use Rattle.rules.proofs.Balance.{emptied_missing}

module _ {Value : Type 0} {k l : ℕ} {rs rs' : Rules Value} (prefix : IsPrefix k l) (adds : Adds k l rs rs') where
  -- no node goes when a rule comes
  pub chain_kept : (d b : ℕ) → node rs d b ≡ true → node rs' d b ≡ true
  chain_kept d b e = adds.nodes d b ∙ or_left _ _ e

  -- those that come are the nodes of its path below the lowest that was there
  pub chain_added : (j b : ℕ)
      → ((node rs (depth j) b ≡ false) × (node rs' (depth j) b ≡ true)) ↔ ((node_count rs k l ≤ j) × (j ≤ l / stride) × (first (depth j) k ≡ b))
  chain_added j b = (λ e. new e.0 e.1, λ h. old h.0 h.1 h.2)
    where
      new : node rs (depth j) b ≡ false → node rs' (depth j) b ≡ true → (node_count rs k l ≤ j) × (j ≤ l / stride) × (first (depth j) k ≡ b)
      new f t =
          let h = (passes_true k l (depth j) b).0 (pick (node rs (depth j) b) (passes k l (depth j) b) f (sym (adds.nodes (depth j) b) ∙ t)) in
          let i : j ≤ l / stride = omega (arith, h.0) in
          (ltb-false j (node_count rs k l) (sym (path_node rs k l prefix.short j i) ∙ ap (node rs (depth j)) h.1 ∙ f), i, h.1)
        where
          pick : (x y : Bool) → x ≡ false → x || y ≡ true → y ≡ true
          pick true y f e = clash true refl f
          pick false y f e = e

      old : node_count rs k l ≤ j → j ≤ l / stride → first (depth j) k ≡ b → (node rs (depth j) b ≡ false) × (node rs' (depth j) b ≡ true)
      old s h e = (
        ap (node rs (depth j)) (sym e) ∙ path_node rs k l prefix.short j h ∙ le-ltb j (node_count rs k l) s,
        ap (node rs' (depth j)) (sym e) ∙ path_there prefix adds j h,
      )

  -- while the node where the rule lives holds others, no node is missing without it
  data_stays : 1 ≤ data_on rs k l → missing rs k l ≡ 0
  unfolding missing
  data_stays h = go (node rs (home l) (first (home l) k)) refl
    where
      go : (x : Bool) → node rs (home l) (first (home l) k) ≡ x → suc (l / stride) - node_count rs k l ≡ 0
      go true e =
          omega (arith, ltb-true (l / stride) (node_count rs k l) (sym (path_node rs k l prefix.short (l / stride) (le_refl (l / stride))) ∙ e))
      go false e = absurd (omega (arith, dataless rs (home l) (first (home l) k) e))

-- how many blocks a row of moves takes
unfoldable pub taken : List Move → ℕ
taken [] = 0
taken (takes t ∷ ms) = suc (taken ms)
taken (gives t ∷ ms) = taken ms
taken (lowers t u ∷ ms) = suc (taken ms)

module _ (K : Kind) where
  taken_fall : (c : ℕ) → taken (fall K c) ≤ 1
  unfolding taken fall
  taken_fall zero = omega arith
  taken_fall (suc zero) = omega arith
  taken_fall (suc (suc c)) = go (ltb (tier K (suc c)) (tier K (suc (suc c))))
    where
      go : (x : Bool) → taken (cond x (lowers (tier K (suc (suc c))) (tier K (suc c)) ∷ []) []) ≤ 1
      go true = omega arith
      go false = omega arith

  -- a count that falls to 0 takes none
  taken_last : taken (fall K 1) ≡ 0
  unfolding taken fall
  taken_last = refl

  taken_go : (m c : ℕ) → taken (nodes_go K m c) ≤ 1
  unfolding nodes_go
  taken_go zero c = unfold taken in omega arith
  taken_go (suc m) c = rw (back m) (taken_fall c)
    where
      back : (m : ℕ) → taken (times m (gives 0) ++ fall K c) ≡ taken (fall K c)
      back = unfold taken in elim [ zero ↦ refl | suc (n → ih) ↦ ih ]

-- a removal takes at most one block, of both pools together
pub remove_one : {Value : Type 0} (N D : ℕ) (rs : Rules Value) → Proper rs → (k l : ℕ) (v : Value) → IsPrefix k l → value_at rs k l ≡ some v
    → taken (cell_moves D rs (del k l)) + taken (node_moves N rs (del k l)) ≤ 1
unfolding cell_moves node_moves
remove_one {Value} N D rs p k l v prefix e =
    rw (e, emptied_missing rs k l v prefix.short e, data_more prefix adds) (go (data_on (without k l rs) k l) refl)
  where
    adds : Adds k l (without k l rs) rs
    adds = unfold edited in adds_del rs p k l v e

    go : (c : ℕ) → data_on (without k l rs) k l ≡ c
        → taken (fall (cell_pool D) (suc (data_on (without k l rs) k l)))
        + taken (nodes_go (node_pool N) (missing (without k l rs) k l) (children_on rs k (lowest (without k l rs) k l))) ≤ 1
    go zero z =
        rw z (omega (arith, taken_last (cell_pool D), taken_go (node_pool N) (missing (without k l rs) k l) (children_on rs k (lowest (without k l rs) k l))))
    go (suc c) z =
        rw (data_stays prefix adds (omega arith)) (unfold nodes_go taken in omega (arith, taken_fall (cell_pool D) (suc (data_on (without k l rs) k l))))
