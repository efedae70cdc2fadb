-- An insert on a booked map where the rule's node is there: replaced, kept, or refused for room, as the ledger says. Assumes nothing.
use mathlib.Core.Path.{◌≡◌, refl, sym, ap, ◌∙◌}
use mathlib.Core.Bool.{Bool, true, cond, ◌&&◌}
use mathlib.Core.Option.{none, some}
use mathlib.Core.List.{List, []}
use Prim.Native.Nat.{ℕ, suc, ◌-◌, ◌/◌}
use native.Mathlib.Omega.{arith}
use Rattle.bits.specs.Bits.{count}
use Rattle.prefix.specs.Prefix.{masked}
use Rattle.tiers.specs.Tiers.{stride, data_top}
use Rattle.node.specs.declared.MultiBitNode.{MultiBitNode}
use Rattle.blocks.specs.Growth.{grow_ask_of}
use Rattle.store.specs.declared.Cell.{Cell}
use Rattle.store.specs.Words.{cell_at, save_cell}
use Rattle.store.proofs.Items.{cells, cell_length}
use Rattle.map.specs.declared.State.{State}
use Rattle.map.specs.declared.Answer.TheVariants.{NoRoom}
use Rattle.map.specs.declared.Edited.{Edited}
use Rattle.map.specs.Memory.{Memory, memory}
use Rattle.map.specs.Inserts.{replace_of, here_of}
use Rattle.rules.specs.Rules.{put, value_at, is_some, IsPrefix}
use Rattle.rules.specs.Nodes.{node_count}
use Rattle.rules.specs.Account.{node_pool, cell_pool, Move, run, steps}
use Rattle.rules.specs.Ledger.{Ledger, rise, nodes_come, missing, node_moves, cell_moves, insert_room, entered, accepts}
use Rattle.rules.proofs.Room.{insert_room_lem}
use Rattle.rules.proofs.RuleCount.{rules_same}
use Rattle.rules.proofs.Balance.{replace_moves}
use Rattle.rules.proofs.Always.{proper_entered, balanced_entered}
use Rattle.pools.specs.Items.{upd, items, place_of}
use Rattle.pools.specs.Accounts.{supplied, number_of}
use Rattle.pools.proofs.Colours.{coloured_stock}
use Rattle.pools.proofs.Growth.{block_below, place_below, write_sound}
use Rattle.pools.proofs.Numbers.{grow_number}
use Rattle.image.specs.Numbers.{path_no, rule_no, with_path}
use Rattle.image.specs.Image.{start_of, node_of}
use Rattle.image.proofs.Words.{bits_count, start_some}
use Rattle.image.proofs.Edited.{tree_put, tree_replace}
use Rattle.image.proofs.Cells.{cell_there}
use Rattle.history.specs.Calls.{stored}
use Rattle.history.proofs.Booked.{Booked, cell_shape}
use Rattle.history.proofs.Settling.{Done, settle}
use Rattle.history.proofs.Homes.{of_cells}
use Rattle.history.proofs.Keeping.{cell_moves_lem, cells_fit, kept_booked}

module _ {N D : ℕ} {g : Ledger Cell} {s : State} {m : Memory} (b : Booked N D g s m) (key len : ℕ) (v : Cell) (prefix : IsPrefix key len) where
  -- the node where the rule lives
  abbrev pub home : ℕ
  home = path_no key (len / stride)

  abbrev pub home_node : MultiBitNode
  home_node = node_of b.E b.R b.es b.vs home

  -- the ledger supplies the nodes, and the cells
  abbrev pub nodes_ok : Bool
  nodes_ok = supplied (node_pool N) (node_moves N g.rules (put key len v)) g.nodes

  abbrev pub cells_ok : Bool
  cells_ok = supplied (cell_pool D) (cell_moves D g.rules (put key len v)) g.cells

  pub room_is : insert_room N D g key len ≡ nodes_ok && cells_ok
  room_is = insert_room_lem N D g key len b.balanced.node_mark b.balanced.cell_mark v

  -- what an insert is to leave
  abbrev pub Left : Bool → Edited × Memory → Type 0
  Left room r = Done N D (cond room (entered N D (put key len v) g) g) (cond room (stored key len (value_at g.rules key len)) NoRoom) r

  -- ---- the rule is stored already

  module _ (old : Cell) (there : value_at g.rules key len ≡ some old) where
    -- it takes no block
    none_taken : (node_moves N g.rules (put key len v) ≡ []) × (cell_moves D g.rules (put key len v) ≡ [])
    none_taken = replace_moves N D g.rules key len old v prefix.short there

    pub replace_room : insert_room N D g key len ≡ true
    unfolding steps
    replace_room = room_is ∙ (rw (none_taken.0, none_taken.1) refl)

    -- the value replaced in its cell
    replace_booked : Booked N D (entered N D (put key len v) g) s (memory m.nodes (save_cell m.cells (place_of b.R b.vs (rule_no key len)) v) m.node_free m.cell_free)
    unfolding entered accepts
    replace_booked =
        let own : b.R (rule_no key len) ≡ true = b.tree.rule_is key len prefix ∙ ap is_some there in
        let at : ℕ = place_of b.R b.vs (rule_no key len) in
        record {
          E = b.E;
          R = b.R;
          es = b.es;
          vs = b.vs;
          val = upd b.val (rule_no key len) v;
          on = b.on;
          od = b.od;
          image = record {
            shape = b.image.shape;
            trees = b.image.trees;
            values = write_sound b.image.values (rule_no key len) v (cell_at (save_cell m.cells at v)) own
                (cells.same m.cells at v (omega (arith, place_below b.image.values (rule_no key len) own, (cell_shape b).below, b.image.cells_length)))
                (λ i h. cells.other m.cells at i v h);
            rooted = b.image.rooted;
            nodes_length = b.image.nodes_length;
            cells_length = cell_length m.cells at v ∙ b.image.cells_length;
          };
          tree = tree_replace b.proper b.tree key len v old prefix there;
          proper = proper_entered N D g (put key len v) prefix b.proper;
          balanced = balanced_entered N D g (put key len v) prefix b.proper b.balanced replace_room;
          node_size = b.node_size;
          cell_size = b.cell_size;
          node_account = b.node_account ∙ sym (ap (λ (ms : List Move). run (node_pool N) ms g.nodes) none_taken.0 ∙ (unfold run in refl));
          cell_account = b.cell_account ∙ sym (ap (λ (ms : List Move). run (cell_pool D) ms g.cells) none_taken.1 ∙ (unfold run in refl));
          count = b.count ∙ sym (rules_same g.rules b.proper key len old v there);
        }

    pub replaced : masked key len ≡ key → Left (insert_room N D g key len) (replace_of s m key len v home_node)
    unfolding replace_of
    replaced shown =
        let c = cell_there b.image b.proper b.tree key len old prefix there in
        rw (replace_room, there, shown, c.0, c.1, c.2) (record { answer = refl; booked = replace_booked })

  -- ---- a new rule

  module _ (absent : value_at g.rules key len ≡ none) where
    -- the number of its data block is the ledger's
    pub cells_number : (grow_ask_of s.cells data_top s.cells.mark m.cell_free home_node.data_idx.0 (count home_node.data_bitmap)).number ≡ cond cells_ok 0 4
    unfolding node_of
    cells_number =
        ap (λ (c : ℕ). (grow_ask_of s.cells data_top s.cells.mark m.cell_free (start_of (items b.R home) (b.vs home)) c).number) (bits_count b.R home)
        ∙ grow_number data_top s.cells m.cell_free s.cells.mark
        (coloured_stock data_top s.cells m.cell_free b.od b.image.values.blocks) (start_of (items b.R home) (b.vs home)) (items b.R home)
        (λ h. rw (start_some (items b.R home) (b.vs home) h) (block_below b.image.values home h)) (cells_fit b key len v prefix absent)
        ∙ of_cells b key len prefix (λ K c a. number_of K (rise K c) a ≡ cond cells_ok 0 4)
        (ap (λ (ms : List Move). number_of (cell_pool D) ms g.cells) (sym (cell_moves_lem b key len v prefix absent)))

    -- its node is there: no node is missing
    module _ (whole : node_count g.rules key len ≡ suc (len / stride)) (here : b.E home ≡ true) where
      no_nodes_lem : node_moves N g.rules (put key len v) ≡ []
      unfolding node_moves missing nodes_come
      no_nodes_lem = let z : suc (len / stride) - node_count g.rules key len ≡ 0 = omega arith in rw z refl

      room_cells : insert_room N D g key len ≡ cells_ok
      unfolding steps
      room_cells = room_is ∙ (rw no_nodes_lem refl)

      -- kept there
      pub kept_here : masked key len ≡ key → Left (insert_room N D g key len) (here_of s m key len v (place_of b.E b.es home) home_node)
      unfolding here_of
      kept_here shown =
          rw (cells_number, room_cells)
          (settle b (entered N D (put key len v) g) (stored key len (value_at g.rules key len)) cells_ok _
          (λ e. record {
            answer = rw (absent, shown) refl;
            booked = kept_booked b key len v prefix absent (room_cells ∙ e) e s.nodes m.nodes m.node_free b.E b.es b.on b.image
                (unfold with_path in tree_put b.proper b.tree key len (len / stride) 0 v prefix absent whole (omega arith)) here
                (b.node_account ∙ sym (ap (λ (ms : List Move). run (node_pool N) ms g.nodes) no_nodes_lem ∙ (unfold run in refl))) b.node_size;
          }))
