-- The sentences of the block ledger that hold at all times: after any history of accepted edits, from a fresh start or any balanced one. Assumes nothing.
use mathlib.Core.Path.{◌≡◌, refl, ap, ◌∙◌}
use mathlib.Core.Bool.{true, and-eq-true_iff, false≢true}
use mathlib.Core.Option.{Option, none, some}
use mathlib.Core.List.{List, [], ◌∷◌}
use Prim.Native.Nat.{ℕ, ◌+◌, ◌^◌, ◌≤◌}
use native.Mathlib.Omega.{arith}
use lib.ListN.{length}
use borrow.Author.Tests.{leb-true, ne_eqb}
use Rattle.tiers.specs.Tiers.{stride}
use Rattle.rules.specs.Rules.{Edit, put, del, value_at, is_some, is_live, edited, live_from, live, Names, Proper}
use Rattle.rules.specs.Nodes.{depths, depth, passed, node, data_count, child_count}
use Rattle.rules.specs.Account.{Kind, node_pool, cell_pool, block_of, free_cells}
use Rattle.rules.specs.Ledger.{Ledger, node_moves, insert_room, remove_room, fresh, entered, ledger_from, accepts, Accepted, nodes_in_use, cells_in_use, Balanced}
use Rattle.rules.proofs.Sums.{sum_zero}
use Rattle.rules.proofs.Live.{proper_edited}
use Rattle.rules.proofs.Supply.{node_tiered}
use Rattle.rules.proofs.Room.{come_mark, go_mark, insert_cells, remove_cells}
use Rattle.rules.proofs.InUse.{over_all}
use Rattle.rules.proofs.Balance.{Kept, nodes_all, cells_all, put_kept, del_kept, BothKept}

module _ {Value : Type 0} where
  -- where there is a value, it is found
  pub some_value : (o : Option Value) → is_some o ≡ true → (v : Value) × (o ≡ some v)
  some_value none e = absurd (false≢true e)
  some_value (some v) e = (v, refl)

  -- the live rules of the ledger are those of the history
  pub ledger_rules : (N D : ℕ) (g : Ledger Value) (h : List (Edit Value)) → (ledger_from N D g h).rules ≡ live_from g.rules h
  unfolding ledger_from entered live_from
  ledger_rules N D g [] = refl
  ledger_rules N D g (e ∷ h) = ap (edited e) (ledger_rules N D g h)

  module _ (N D : ℕ) (g : Ledger Value) where
    -- every edit that names a prefix leaves proper rules
    pub proper_entered : (e : Edit Value) → Names e → Proper g.rules → Proper (entered N D e g).rules
    unfolding entered
    proper_entered e n p = proper_edited e g.rules n p

    -- with room, both marks stay within their pools
    marks : (e : Edit Value) → accepts N D g e ≡ true → ((entered N D e g).nodes.mark ≤ N) × ((entered N D e g).cells.mark ≤ D)
    unfolding accepts entered node_moves insert_room remove_room
    marks (put k l v) e =
        let h = (and-eq-true_iff _ _).0 e in
        (rw (come_mark (node_pool N) (node_tiered N) _ _ g.nodes) (leb-true _ N h.0), rw (insert_cells N D g k l v) (leb-true _ D h.1))
    marks (del k l) e =
        let h = (and-eq-true_iff _ _).0 ((and-eq-true_iff (is_live g.rules k l) _).0 e).1 in
        (rw (go_mark (node_pool N) _ _ g.nodes) (leb-true _ N h.0), rw (remove_cells N D g k l) (leb-true _ D h.1))

    -- an accepted edit leaves a balanced ledger balanced
    pub balanced_entered : (e : Edit Value) → Names e → Proper g.rules → Balanced N D g → accepts N D g e ≡ true → Balanced N D (entered N D e g)
    balanced_entered e n p b a = build (kept e n a) (marks e a)
      where
        nodes : Kept (node_pool N) (nodes_in_use N g.rules) g.nodes
        nodes = omega (arith, b.nodes, b.node_mark)

        cells : Kept (cell_pool D) (cells_in_use D g.rules) g.cells
        cells = omega (arith, b.cells, b.cell_mark)

        there : (k l : ℕ) → accepts N D g (del k l) ≡ true → is_live g.rules k l ≡ true
        there k l a = unfold accepts in ((and-eq-true_iff (is_live g.rules k l) (remove_room N D g k l)).0 a).0

        kept : (e : Edit Value) → Names e → accepts N D g e ≡ true → BothKept N D g p nodes cells e
        kept (put k l v) n a = put_kept N D g p nodes cells k l v n (value_at g.rules k l) refl
        kept (del k l) n a =
            let s = some_value (value_at g.rules k l) (there k l a) in
            del_kept N D g p nodes cells k l s.0 n s.1

        build : BothKept N D g p nodes cells e → ((entered N D e g).nodes.mark ≤ N) × ((entered N D e g).cells.mark ≤ D)
            → Balanced N D (entered N D e g)
        build k m = unfold entered in record {
          nodes = omega (arith, k.0, m.0);
          node_mark = m.0;
          cells = omega (arith, k.1, m.1);
          cell_mark = m.1;
        }

  -- so does a history of accepted edits: the start may be any balanced ledger of proper rules
  pub balanced_after : (N D : ℕ) (g : Ledger Value) (h : List (Edit Value)) → Proper g.rules → Balanced N D g → Accepted N D g h
      → Proper (ledger_from N D g h).rules × Balanced N D (ledger_from N D g h)
  unfolding ledger_from
  balanced_after N D g [] p b a = (p, b)
  balanced_after N D g (e ∷ h) p b a =
      let i = balanced_after N D g h p b a.2 in
      (proper_entered N D (ledger_from N D g h) e a.0 i.0, balanced_entered N D (ledger_from N D g h) e a.0 i.0 i.1 a.1)

  -- from a fresh start, the ledger's rules are the live rules of the history
  pub fresh_rules : (N D : ℕ) (h : List (Edit Value)) → (ledger_from N D fresh h).rules ≡ live h
  fresh_rules N D h = unfold fresh in ledger_rules N D fresh h

  -- a fresh start is balanced: the root's place is in use, and nothing is free
  pub fresh_balanced : (N D : ℕ) → 1 ≤ N → Balanced {Value = Value} N D fresh
  fresh_balanced N D h = unfold fresh in record {
    nodes =
        omega (arith, nodes_all {Value = Value} N [] tt, none_over (block_of (node_pool N)) refl (child_count {Value = Value} []) children, none_free (node_pool N) 1);
    node_mark = h;
    cells =
        omega (arith, cells_all {Value = Value} D [], none_over (block_of (cell_pool D)) refl (data_count {Value = Value} []) (λ d b. unfold data_count in refl), none_free (cell_pool D) 0);
    cell_mark = omega arith;
  }
    where
      none_over : (f : ℕ → ℕ) → f 0 ≡ 0 → (g : ℕ → ℕ → ℕ) → ((d b : ℕ) → g d b ≡ 0) → over_all f g ≡ 0
      none_over f z g q = unfold over_all in sum_zero depths _ (λ j hj. sum_zero (2 ^ depth j) _ (λ b hb. ap f (q (depth j) b) ∙ z))

      children : (d b : ℕ) → child_count {Value = Value} [] d b ≡ 0
      children d b = unfold child_count node passed in sum_zero (2 ^ stride) _ (λ c hc. rw (ne_eqb (d + stride) 0 (λ e. omega arith)))

      none_free : (K : Kind) (m : ℕ) → free_cells K (record { mark = m; free = λ t. 0 }) ≡ 0
      none_free K m = unfold free_cells in sum_zero (length K.spacings) _ (λ t ht. omega arith)

  -- document 01: at all times, per pool, from a fresh start
  pub always_balanced : (N D : ℕ) (h : List (Edit Value)) → 1 ≤ N → Accepted N D fresh h → Balanced N D (ledger_from N D fresh h)
  always_balanced N D h n a = (balanced_after N D fresh h (unfold fresh in tt) (fresh_balanced N D n) a).1
