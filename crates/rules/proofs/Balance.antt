-- At all times the cells of blocks in use, of free blocks and never issued sum to the pool size: the ledger alone shows it. Assumes nothing.
use mathlib.Core.Path.{◌≡◌, refl, ap, ◌∙◌}
use mathlib.Core.Option.{Option, none, some}
use mathlib.Core.List.{[]}
use Prim.Native.Nat.{ℕ, zero, suc, ◌+◌, ◌-◌, ◌*◌, ◌^◌, ◌≤◌}
use native.Mathlib.Omega.{arith}
use native.Mathlib.Nat.{mul-one}
use Rattle.prefix.specs.Prefix.{width}
use Rattle.rules.specs.Rules.{Rules, Edit, put, del, value_at, without, edited, IsPrefix, Proper}
use Rattle.rules.specs.Nodes.{depths, depth, data_count, child_count, node_count}
use Rattle.rules.specs.Account.{Kind, node_pool, cell_pool, spacing, Account, run, block_of, free_cells}
use Rattle.rules.specs.Ledger.{nodes_come, nodes_go, rise, fall, Ledger, missing, emptied, lowest, children_on, data_on, node_moves, cell_moves, nodes_in_use, cells_in_use}
use Rattle.rules.proofs.Sums.{sum_same}
use Rattle.rules.proofs.Live.{proper_edited, without_none}
use Rattle.rules.proofs.Supply.{node_tiered, cell_tiered}
use Rattle.rules.proofs.Paths.{count_live}
use Rattle.rules.proofs.Adding.{Adds, adds_put, adds_del, adds_again, adds_same, childless, dataless, data_more}
use Rattle.rules.proofs.InUse.{over_all, over_nodes_lem, data_in_use, lowest_more, nodes_in_use_same, nodes_in_use_more}
use Rattle.rules.proofs.Costs.{rise_cost, fall_cost, come_cost, go_cost}

-- blocks in use and free blocks make up the issued part
abbrev pub Kept : Kind → ℕ → Account → Type 0
Kept K used a = used + free_cells K a ≡ a.mark

-- counts that agree at every node are in use alike
all_same : (f : ℕ → ℕ) (g g' : ℕ → ℕ → ℕ) → ((d b : ℕ) → g' d b ≡ g d b) → over_all f g' ≡ over_all f g
unfolding over_all
all_same f g g' h = sum_same depths _ _ (λ j hj. sum_same (2 ^ depth j) _ _ (λ b hb. ap f (h (depth j) b)))

module _ {Value : Type 0} where
  -- blocks in use of the node pool, summed over all depths and bits
  pub nodes_all : (N : ℕ) (rs : Rules Value) → Proper rs → nodes_in_use N rs ≡ 1 + over_all (block_of (node_pool N)) (child_count rs)
  unfolding nodes_in_use
  nodes_all N rs p = ap (λ (x : ℕ). 1 + x) (over_nodes_lem rs (block_of (node_pool N)) (child_count rs) refl (childless rs p))

  -- and of the data pool
  pub cells_all : (D : ℕ) (rs : Rules Value) → cells_in_use D rs ≡ over_all (block_of (cell_pool D)) (data_count rs)
  unfolding cells_in_use
  cells_all D rs = over_nodes_lem rs (block_of (cell_pool D)) (data_count rs) refl (dataless rs)

  -- one rule more, or one less: both pools stay kept
  module _ {k l : ℕ} {rs rs' : Rules Value} (prefix : IsPrefix k l) (p : Proper rs) (p' : Proper rs') (adds : Adds k l rs rs') where
    single : (N : ℕ) → block_of (node_pool N) 1 ≡ 1
    single N = ap (spacing (node_pool N)) (node_tiered N).first ∙ (node_tiered N).single

    nodes_come_lem : (N : ℕ) (a : Account) → Kept (node_pool N) (nodes_in_use N rs) a
        → Kept (node_pool N) (nodes_in_use N rs') (run (node_pool N) (nodes_come (node_pool N) (missing rs k l) (children_on rs k (lowest rs k l))) a)
    nodes_come_lem N a kept = go (missing rs k l) refl
      where
        K : Kind
        K = node_pool N

        c : ℕ
        c = children_on rs k (lowest rs k l)

        go : (m : ℕ) → missing rs k l ≡ m → Kept K (nodes_in_use N rs') (run K (nodes_come K (missing rs k l) c) a)
        go zero e = rw e (unfold nodes_come run in omega (arith, nodes_all N rs p, nodes_all N rs' p', nodes_in_use_same prefix p adds (block_of K) e))
        go (suc m) e =
            let o : m * block_of K 1 ≡ m = ap (λ (x : ℕ). m * x) (single N) ∙ mul-one m in
            rw e (omega (arith, nodes_all N rs p, nodes_all N rs' p', nodes_in_use_more prefix p adds (block_of K) refl m e, come_cost K (node_tiered N) m c a))

    nodes_go_lem : (N : ℕ) (a : Account) → Kept (node_pool N) (nodes_in_use N rs') a
        → Kept (node_pool N) (nodes_in_use N rs) (run (node_pool N) (nodes_go (node_pool N) (missing rs k l) (children_on rs' k (lowest rs k l))) a)
    nodes_go_lem N a kept = go (missing rs k l) refl
      where
        K : Kind
        K = node_pool N

        c : ℕ
        c = children_on rs k (lowest rs k l)

        go : (m : ℕ) → missing rs k l ≡ m → Kept K (nodes_in_use N rs) (run K (nodes_go K (missing rs k l) (children_on rs' k (lowest rs k l))) a)
        go zero e = rw e (unfold nodes_go run in omega (arith, nodes_all N rs p, nodes_all N rs' p', nodes_in_use_same prefix p adds (block_of K) e))
        go (suc m) e =
            let o : m * block_of K 1 ≡ m = ap (λ (x : ℕ). m * x) (single N) ∙ mul-one m in
            let u = nodes_in_use_more prefix p adds (block_of K) refl m e in
            rw (lowest_more prefix p adds (block_of K) m e, e)
            (omega (arith, nodes_all N rs p, nodes_all N rs' p', go_cost K (node_tiered N) m c a))

    cell_comes : (D : ℕ) (a : Account) → Kept (cell_pool D) (cells_in_use D rs) a
        → Kept (cell_pool D) (cells_in_use D rs') (run (cell_pool D) (rise (cell_pool D) (data_on rs k l)) a)
    cell_comes D a kept =
        omega (arith, cells_all D rs, cells_all D rs', data_in_use prefix p adds (block_of (cell_pool D)), rise_cost (cell_pool D) (cell_tiered D) (data_on rs k l) a)

    cell_goes : (D : ℕ) (a : Account) → Kept (cell_pool D) (cells_in_use D rs') a
        → Kept (cell_pool D) (cells_in_use D rs) (run (cell_pool D) (fall (cell_pool D) (data_on rs' k l)) a)
    cell_goes D a kept =
        let u = data_in_use prefix p adds (block_of (cell_pool D)) in
        rw (data_more prefix adds) (omega (arith, cells_all D rs, cells_all D rs', fall_cost (cell_pool D) (cell_tiered D) (data_on rs k l) a))

  -- a stored prefix misses no node
  pub live_whole : (rs : Rules Value) (k l : ℕ) (v : Value) → l ≤ width → value_at rs k l ≡ some v → missing rs k l ≡ 0
  unfolding missing
  live_whole rs k l v short e = omega (arith, count_live rs k l v short e)

  -- what its removal empties is what the rules left then miss
  pub emptied_missing : (rs : Rules Value) (k l : ℕ) (v : Value) → l ≤ width → value_at rs k l ≡ some v → emptied rs k l ≡ missing (without k l rs) k l
  unfolding missing emptied
  emptied_missing rs k l v short e = ap (λ (x : ℕ). x - node_count (without k l rs) k l) (count_live rs k l v short e)

  -- a replacement takes and returns nothing
  pub replace_moves : (N D : ℕ) (rs : Rules Value) (k l : ℕ) (v w : Value) → l ≤ width → value_at rs k l ≡ some v
      → (node_moves N rs (put k l w) ≡ []) × (cell_moves D rs (put k l w) ≡ [])
  unfolding node_moves cell_moves
  replace_moves N D rs k l v w short e = (rw (live_whole rs k l v short e) (unfold nodes_come in refl), rw e)

  -- and so does the removal of what isn't stored
  pub absent_moves : (N D : ℕ) (rs : Rules Value) (k l : ℕ) → value_at rs k l ≡ none
      → (node_moves N rs (del k l) ≡ []) × (cell_moves D rs (del k l) ≡ [])
  unfolding node_moves cell_moves emptied
  absent_moves N D rs k l e =
      let n : node_count (without k l rs) k l ≡ node_count rs k l = ap (λ (x : Rules Value). node_count x k l) (without_none rs k l e) in
      let z : node_count rs k l - node_count (without k l rs) k l ≡ 0 = omega arith in
      (rw z (unfold nodes_go in refl), rw e)

  -- ---- an edit, accepted or not, keeps both pools, if what it removes is stored

  module _ (N D : ℕ) (g : Ledger Value) (p : Proper g.rules)
      (nodes : Kept (node_pool N) (nodes_in_use N g.rules) g.nodes) (cells : Kept (cell_pool D) (cells_in_use D g.rules) g.cells) where
    -- the rules before the edit
    abbrev pub rs : Rules Value
    rs = g.rules

    -- after the edit, as before it
    abbrev pub BothKept : Edit Value → Type 0
    BothKept e =
        Kept (node_pool N) (nodes_in_use N (edited e rs)) (run (node_pool N) (node_moves N rs e) g.nodes)
        × Kept (cell_pool D) (cells_in_use D (edited e rs)) (run (cell_pool D) (cell_moves D rs e) g.cells)

    -- an insert, of a new prefix or a stored one
    pub put_kept : (k l : ℕ) (v : Value) → IsPrefix k l → (o : Option Value) → value_at rs k l ≡ o → BothKept (put k l v)
    put_kept k l v prefix none e =
        let p' = proper_edited (put k l v) rs prefix p in
        let adds = adds_put rs k l v e in (
          unfold node_moves in nodes_come_lem prefix p p' adds N g.nodes nodes,
          unfold cell_moves in (rw e (cell_comes prefix p p' adds D g.cells cells)),
        )
    put_kept k l v prefix (some w) e =
        let p' = proper_edited (put k l v) rs prefix p in
        let m = replace_moves N D rs k l w v prefix.short e in
        let same = adds_same (adds_del rs p k l w e) (adds_again rs k l v) in
        let n = all_same (block_of (node_pool N)) (child_count rs) (child_count (edited (put k l v) rs)) same.1 in
        let c = all_same (block_of (cell_pool D)) (data_count rs) (data_count (edited (put k l v) rs)) same.2 in (
          rw m.0 (unfold run in omega (arith, nodes, nodes_all N rs p, nodes_all N (edited (put k l v) rs) p')),
          rw m.1 (unfold run in omega (arith, cells, cells_all D rs, cells_all D (edited (put k l v) rs))),
        )

    -- a removal
    pub del_kept : (k l : ℕ) (v : Value) → IsPrefix k l → value_at rs k l ≡ some v → BothKept (del k l)
    unfolding edited node_moves cell_moves
    del_kept k l v prefix e =
        let p' : Proper (without k l rs) = proper_edited (del k l) rs prefix p in
        let adds : Adds k l (without k l rs) rs = adds_del rs p k l v e in (
          rw (emptied_missing rs k l v prefix.short e) (nodes_go_lem prefix p' p adds N g.nodes nodes),
          rw e (cell_goes prefix p' p adds D g.cells cells),
        )
