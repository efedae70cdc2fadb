-- What a removal writes where the ledger supplies its blocks: the image of the ledger with that removal entered. Assumes nothing.
use mathlib.Core.Path.{◌≡◌, refl, sym, ap, ◌∙◌}
use mathlib.Core.Bool.{Bool, true, false, ◌&&◌, and-eq-true_iff}
use mathlib.Core.Option.{some}
use mathlib.Core.List.{List}
use Prim.Native.Nat.{ℕ, suc, ◌-◌, ◌/◌, ◌<◌}
use native.Mathlib.Omega.{arith}
use borrow.Author.Tests.{leb-true, eqb-true, lt-ltb}
use lib.Dec.{eqb, leb, ltb}
use Rattle.tiers.specs.Tiers.{stride, data_top}
use Rattle.places.specs.Places.{data_bit}
use Rattle.node.specs.declared.MultiBitNode.{MultiBitNode}
use Rattle.blocks.specs.declared.Pool.{Pool}
use Rattle.blocks.specs.Growth.{shrink_of}
use Rattle.store.specs.declared.Cell.{Cell}
use Rattle.edits.specs.Removing.{drop_of, prune_of}
use Rattle.map.specs.declared.State.{State}
use Rattle.map.specs.Memory.{Memory, memory, state_as}
use Rattle.rules.specs.Rules.{Rules, del, value_at, IsPrefix}
use Rattle.rules.specs.Nodes.{node_count}
use Rattle.rules.specs.Account.{run}
use Rattle.rules.specs.Ledger.{Ledger, fall, emptied, remove_room, entered, accepts}
use Rattle.rules.proofs.Returns.{Fits}
use Rattle.rules.proofs.RuleCount.{rules_less}
use Rattle.rules.proofs.Paths.{count_live}
use Rattle.rules.proofs.Always.{proper_entered, balanced_entered}
use Rattle.pools.specs.Items.{upd, items, place_of}
use Rattle.pools.specs.Accounts.{kind_of, account_of, supplied}
use Rattle.pools.proofs.Items.{items_out, items_other}
use Rattle.image.specs.Numbers.{path_no, rule_no, without_path}
use Rattle.image.proofs.Paths.{path_differ, rule_node, rule_bit}
use Rattle.image.proofs.Changes.{other_rule}
use Rattle.image.proofs.Bare.{last_rule_lem, last_child_lem}
use Rattle.image.proofs.Edited.{tree_del}
use Rattle.image.proofs.Dropping.{drop_image, drop_account, drop_size}
use Rattle.image.proofs.Pruning.{prune_image}
use Rattle.image.proofs.Trails.{Filled}
use Rattle.history.proofs.Booked.{Booked}
use Rattle.history.proofs.Removals.{home, home_node, nodes_ok, cells_ok, own, cells_given, cells_fit, ledger_cells, there, few, nodes_given, nodes_fit, ledger_nodes}

module _ {N D : ℕ} {g : Ledger Cell} {s : State} {m : Memory} (b : Booked N D g s m) (key len : ℕ) (prefix : IsPrefix key len)
    (old : Cell) (stored : value_at g.rules key len ≡ some old) (places : List ℕ) (path : List MultiBitNode)
    (walked : Filled b.E b.R b.es b.vs key (node_count g.rules key len) places path)
  where
    abbrev rs : Rules Cell
    rs = g.rules

    abbrev end : ℕ
    end = len / stride

    abbrev R' : ℕ → Bool
    R' = upd b.R (rule_no key len) false

    counted : node_count rs key len ≡ suc end
    counted = count_live rs key len old prefix.short stored

    -- the nodes above the rule's own keep their rules
    other_node : (j : ℕ) → j < end → (home b key len prefix old stored ≡ path_no key j → ⊥)
    other_node j h e = omega (arith, path_differ key end j prefix.bits (omega (arith, prefix.short)) (omega (arith, prefix.short)) e)

    -- what is written where the ledger supplies every block: the ledger with the removal entered
    abbrev pub dropped : Pool × List ℕ × List ℕ × List ℕ
    dropped = drop_of s.cells m.nodes m.cells m.cell_free (place_of b.E b.es (home b key len prefix old stored)) (home_node b key len prefix old stored) (data_bit key len)

    abbrev pub pruned : Bool → Pool × List ℕ × List ℕ
    pruned flag = prune_of end s.nodes dropped.1 m.node_free places path key flag

    module _ (room : remove_room N D g key len ≡ true) (c : cells_ok b key len prefix old stored ≡ true) (n : nodes_ok b key len prefix old stored ≡ true) where
      pub removed : (flag : Bool) → flag ≡ ltb 0 (emptied rs key len)
          → Booked N D (entered N D (del key len) g) (state_as (pruned flag).0 dropped.0 (s.rules - 1)) (memory (pruned flag).1 dropped.2 (pruned flag).2 dropped.3)
      unfolding entered accepts
      removed flag e =
          let x = rule_no key len in
          let start = (shrink_of s.cells data_top m.cell_free (b.vs (home b key len prefix old stored)) (items b.R (home b key len prefix old stored))).0.start in
          let d = rw (rule_node key len, rule_bit key len) at (drop_image b.image x) in
          let i = d (own b key len prefix old stored) (cells_given b key len prefix old stored c) (cells_fit b key len prefix old stored) in
          let z = prune_image i.1 key end (emptied rs key len) flag places path prefix.bits (omega (arith, prefix.short)) (few b key len prefix old stored) e
          (λ j h. walked.place j (omega (arith, counted)))
          (λ j h. walked.node j (omega (arith, counted)) ∙ sym (rw (rule_node key len) at (other_rule b.E b.R b.es b.vs x start (path_no key j) false (λ q. other_node j h (sym (rule_node key len) ∙ q)))))
          (there b key len prefix old stored) (empty flag e)
          (λ j h k l. ap (λ (y : ℕ). leb (items b.E (path_no key j)) 1 && eqb y 0) (items_other b.R x (path_no key j) false (λ q. other_node j k (sym (rule_node key len) ∙ q)))
          ∙ last_child_lem b.proper b.tree key len old prefix stored j h k l)
          (nodes_given b key len prefix old stored n) (nodes_fit b key len prefix old stored) in
          record {
            E = without_path b.E key end (emptied rs key len);
            R = R';
            es = z.0;
            vs = upd b.vs (home b key len prefix old stored) start;
            val = b.val;
            on = z.1;
            od = i.0;
            image = z.2;
            tree = tree_del b.proper b.tree key len old prefix stored;
            proper = proper_entered N D g (del key len) prefix b.proper;
            balanced = balanced_entered N D g (del key len) prefix b.proper b.balanced (rw (stored, room) refl);
            node_size = z.4 ∙ b.node_size;
            cell_size = (rw (rule_node key len, rule_bit key len) at (drop_size b.image (rule_no key len) (own b key len prefix old stored))) ∙ b.cell_size;
            node_account = z.3 ∙ ledger_nodes b key len prefix old stored;
            cell_account = account (cells_given b key len prefix old stored c) (cells_fit b key len prefix old stored) ∙ ledger_cells b key len prefix old stored;
            count = omega (arith, b.count, rules_less rs b.proper key len old stored);
          }
        where
          account : supplied (kind_of data_top s.cells) (fall (kind_of data_top s.cells) (items b.R (home b key len prefix old stored))) (account_of s.cells) ≡ true
              → Fits (kind_of data_top s.cells) (fall (kind_of data_top s.cells) (items b.R (home b key len prefix old stored))) (account_of s.cells)
              → account_of dropped.0 ≡ run (kind_of data_top s.cells) (fall (kind_of data_top s.cells) (items b.R (home b key len prefix old stored))) (account_of s.cells)
          account = rw (rule_node key len, rule_bit key len) at (drop_account b.image (rule_no key len) (own b key len prefix old stored))

          empty : (flag : Bool) → flag ≡ ltb 0 (emptied rs key len) → 0 < emptied rs key len
              → (items b.E (home b key len prefix old stored) ≡ 0) × (items R' (home b key len prefix old stored) ≡ 0)
          empty flag e h =
              let t = last_rule_lem b.proper b.tree key len old prefix stored (omega (arith, few b key len prefix old stored)) ∙ lt-ltb 0 (emptied rs key len) h in
              let w = (and-eq-true_iff (leb (items b.R (home b key len prefix old stored)) 1) (eqb (items b.E (home b key len prefix old stored)) 0)).0 t in
              let o : suc (items R' (home b key len prefix old stored)) ≡ items b.R (home b key len prefix old stored) = rw (rule_node key len) at (items_out b.R (rule_no key len) (own b key len prefix old stored)) in
              (eqb-true _ 0 w.1, omega (arith, leb-true (items b.R (home b key len prefix old stored)) 1 w.0))
