-- An insert on a booked map where nodes are missing: they are made, then the rule is kept; or it is refused for room, as the ledger
-- says. And the whole insert. Assumes nothing.
use mathlib.Core.Path.{◌≡◌, refl, sym, ap, ◌∙◌, subst}
use mathlib.Core.Bool.{true, false, cond}
use mathlib.Core.Option.{Option, none, some}
use mathlib.Core.List.{List}
use Prim.Native.Nat.{ℕ, suc, ◌+◌, ◌-◌, ◌/◌, ◌≤◌, ◌<◌}
use native.Mathlib.Decide.{dec_lt}
use native.Mathlib.Omega.{arith}
use borrow.Author.Tests.{le-leb, lt-leb, lt-ltb, le-ltb}
use lib.Dec.{ltb}
use lib.Pow.{pow_pos}
use Rattle.bits.specs.Bits.{has, count}
use Rattle.prefix.specs.Prefix.{first, masked}
use Rattle.prefix.proofs.Masking.{masked_again}
use Rattle.tiers.specs.Tiers.{stride, data_top, child_top, empty}
use Rattle.places.specs.Places.{data_bit}
use Rattle.node.specs.declared.MultiBitNode.{MultiBitNode}
use Rattle.node.specs.Nodes.{empty_node}
use Rattle.blocks.specs.Growth.{grow_ask_of, chain_ask_of}
use Rattle.store.specs.declared.Cell.{Cell}
use Rattle.std.specs.Prelude.{Ok}
use Rattle.walk.specs.declared.Trail.{Trail}
use Rattle.walk.specs.Trails.{trail_of}
use Rattle.edits.specs.Adding.{keep_of, make_of}
use Rattle.map.specs.declared.State.{State}
use Rattle.map.specs.declared.Answer.TheVariants.{NoRoom}
use Rattle.map.specs.Memory.{Memory, memory, state_as}
use Rattle.map.specs.Inserts.{replace_of, here_of, below_of, arrived_of, insert_of, walked_of}
use Rattle.rules.specs.Rules.{Rules, put, value_at, is_some, IsPrefix}
use Rattle.rules.specs.Nodes.{depth, node_count}
use Rattle.rules.specs.Account.{Kind, node_pool, cell_pool, Account, Move, run}
use Rattle.rules.specs.Ledger.{Ledger, rise, nodes_come, missing, lowest, children_on, node_moves, insert_room, entered}
use Rattle.rules.proofs.Returns.{Fits, insert_fits}
use Rattle.rules.proofs.Paths.{count_root, count_path, count_live, path_node}
use Rattle.pools.specs.Items.{items, place_of}
use Rattle.pools.specs.Accounts.{kind_of, account_of, supplied, number_of}
use Rattle.pools.proofs.Colours.{coloured_stock}
use Rattle.pools.proofs.Growth.{block_below}
use Rattle.pools.proofs.Numbers.{grow_number, chain_number}
use Rattle.image.specs.Numbers.{path_no, with_path}
use Rattle.image.specs.Image.{start_of, node_of}
use Rattle.image.proofs.Paths.{path_low}
use Rattle.image.proofs.Trees.{path_there, children_are}
use Rattle.image.proofs.Words.{bits_count, start_some}
use Rattle.image.proofs.Changes.{no_items}
use Rattle.image.proofs.Edited.{tree_put}
use Rattle.image.proofs.Making.{make_image, made_there, made_blank}
use Rattle.image.proofs.Cells.{data_live}
use Rattle.image.proofs.Trails.{Walked, trail_is}
use Rattle.history.specs.Calls.{stored}
use Rattle.history.proofs.Masked.{masked_prefix, value_masked, put_entered, insert_masked}
use Rattle.history.proofs.Booked.{Booked, node_kind, edit_first_lem}
use Rattle.history.proofs.Settling.{Done, done_as, alike, settle_both}
use Rattle.history.proofs.Homes.{of_cells}
use Rattle.history.proofs.Keeping.{cell_moves_lem, cells_fit, kept_booked}
use Rattle.history.proofs.Inserts.{home, home_node, nodes_ok, cells_ok, room_is, Left, replaced, kept_here}

module _ {N D : ℕ} {g : Ledger Cell} {s : State} {m : Memory} (b : Booked N D g s m) (key len : ℕ) (v : Cell) (prefix : IsPrefix key len) where
  abbrev rs : Rules Cell
  rs = g.rules

  -- the node of level i on the path, where the walk ends
  abbrev node_here : ℕ → MultiBitNode
  node_here i = node_of b.E b.R b.es b.vs (path_no key i)

  abbrev place_here : ℕ → ℕ
  place_here i = place_of b.E b.es (path_no key i)

  -- a node of the path is there exactly where the count reaches it
  counted : (j : ℕ) → j ≤ len / stride → b.E (path_no key j) ≡ ltb j (node_count rs key len)
  counted j h = path_there b.tree key j prefix.bits (omega (arith, prefix.short)) ∙ path_node rs key len prefix.short j h

  there : (j : ℕ) → j < node_count rs key len → b.E (path_no key j) ≡ true
  there j h = counted j (omega (arith, count_path rs key len prefix.short)) ∙ lt-ltb j (node_count rs key len) h

  -- ---- n + 1 nodes are missing below level i

  module _ (i n : ℕ) (short : node_count rs key len ≡ suc i) (gap : i + suc n ≡ len / stride) where
    -- the rule isn't stored
    absent : value_at rs key len ≡ none
    absent = go (value_at rs key len) refl
      where
        go : (o : Option Cell) → value_at rs key len ≡ o → value_at rs key len ≡ none
        go none e = e
        go (some w) e = absurd (omega (arith, count_live rs key len w prefix.short e))

    -- as many as the ledger says, under a node with as many children
    come : missing rs key len ≡ suc n
    unfolding missing
    come = omega arith

    children : items b.E (path_no key i) ≡ children_on rs key (lowest rs key len)
    unfolding lowest
    children =
        let z : node_count rs key len - 1 ≡ i = omega arith in
        rw z (children_are b.proper b.tree i (first (depth i) key) (omega (arith, prefix.short)) (path_low key i prefix.bits (omega (arith, prefix.short))))

    node_moves_lem : node_moves N rs (put key len v) ≡ nodes_come (node_pool N) (suc n) (children_on rs key (lowest rs key len))
    unfolding node_moves
    node_moves_lem = rw come refl

    -- what the ledger says of them holds of the map's pool
    of_nodes : (P : Kind → ℕ → Account → Type 0) → P (node_pool N) (children_on rs key (lowest rs key len)) g.nodes
        → P (kind_of child_top s.nodes) (items b.E (path_no key i)) (account_of s.nodes)
    of_nodes P p = alike P (node_kind b) children b.node_account p

    nodes_fit : Fits (kind_of child_top s.nodes) (nodes_come (kind_of child_top s.nodes) (suc n) (items b.E (path_no key i))) (account_of s.nodes)
    nodes_fit = of_nodes (λ K c a. Fits K (nodes_come K (suc n) c) a)
        (subst (λ (ms : List Move). Fits (node_pool N) ms g.nodes) node_moves_lem (insert_fits N D g b.proper b.balanced key len prefix v).0)

    -- the number of the missing nodes is the ledger's
    nodes_number : chain_ask_of s.nodes child_top m.node_free (node_here i).children_idx.0 (count (node_here i).child_bitmap) (suc n) ≡ cond (nodes_ok b key len v prefix) 0 4
    unfolding node_of
    nodes_number =
        ap (λ (c : ℕ). chain_ask_of s.nodes child_top m.node_free (start_of (items b.E (path_no key i)) (b.es (path_no key i))) c (suc n)) (bits_count b.E (path_no key i))
        ∙ chain_number child_top s.nodes m.node_free (coloured_stock child_top s.nodes m.node_free b.on b.image.trees.blocks)
        (start_of (items b.E (path_no key i)) (b.es (path_no key i))) (items b.E (path_no key i)) n
        (λ h. rw (start_some (items b.E (path_no key i)) (b.es (path_no key i)) h) (block_below b.image.trees (path_no key i) h)) nodes_fit
        ∙ of_nodes (λ K c a. number_of K (nodes_come K (suc n) c) a ≡ cond (nodes_ok b key len v prefix) 0 4)
        (ap (λ (ms : List Move). number_of (node_pool N) ms g.nodes) (sym node_moves_lem))

    -- the node where the rule is to live isn't there, so its block of cells is the first
    nowhere : b.E (home b key len v prefix) ≡ false
    nowhere = counted (len / stride) (omega arith) ∙ le-ltb (len / stride) (node_count rs key len) (omega arith)

    bare : items b.R (path_no key (len / stride)) ≡ 0
    bare = (no_items b.image.shape (path_no key (len / stride)) (omega (arith, pow_pos (depth (len / stride)))) nowhere).1

    -- and its number is the ledger's
    first_number_lem : (grow_ask_of s.cells data_top s.cells.mark m.cell_free empty 0).number ≡ cond (cells_ok b key len v prefix) 0 4
    first_number_lem =
        grow_number data_top s.cells m.cell_free s.cells.mark (coloured_stock data_top s.cells m.cell_free b.od b.image.values.blocks) empty 0
        (λ h. absurd (omega arith))
        (subst (λ (c : ℕ). Fits (kind_of data_top s.cells) (rise (kind_of data_top s.cells) c) (account_of s.cells)) bare (cells_fit b key len v prefix absent))
        ∙ subst (λ (c : ℕ). number_of (kind_of data_top s.cells) (rise (kind_of data_top s.cells) c) (account_of s.cells) ≡ cond (cells_ok b key len v prefix) 0 4) bare
        (of_cells b key len prefix (λ K c a. number_of K (rise K c) a ≡ cond (cells_ok b key len v prefix) 0 4)
        (ap (λ (ms : List Move). number_of (cell_pool D) ms g.cells) (sym (cell_moves_lem b key len v prefix absent))))

    -- made and kept: the ledger with the insert entered
    made : nodes_ok b key len v prefix ≡ true → cells_ok b key len v prefix ≡ true
        → let y = make_of s.nodes m.nodes m.node_free (place_here i) (node_here i) (depth i) key (suc n) in
        let k = keep_of s.cells y.1 m.cells m.cell_free y.0.at empty_node (data_bit key len) v in
        Booked N D (entered N D (put key len v) g) (state_as y.0.pool k.0 (s.rules + 1)) (memory k.1 k.2 y.2 k.3)
    made e f =
        let given = of_nodes (λ K c a. supplied K (nodes_come K (suc n) c) a ≡ true) (subst (λ (ms : List Move). supplied (node_pool N) ms g.nodes ≡ true) node_moves_lem e) in
        let z = make_image b.image key i n prefix.bits (omega (arith, prefix.short)) (λ j h. there j (omega arith))
        (λ j h k. counted j (omega arith) ∙ le-ltb j (node_count rs key len) (omega arith)) given nodes_fit in
        let blank = made_blank b.image.shape key i n prefix.bits (omega (arith, prefix.short)) (rw gap nowhere) z.0 b.vs in
        let at : (make_of s.nodes m.nodes m.node_free (place_here i) (node_here i) (depth i) key (suc n)).0.at ≡ place_of (with_path b.E key i (suc n)) z.0 (path_no key (len / stride)) =
        z.3 ∙ ap (λ (j : ℕ). place_of (with_path b.E key i (suc n)) z.0 (path_no key j)) gap in
        let node : empty_node ≡ node_of (with_path b.E key i (suc n)) b.R z.0 b.vs (path_no key (len / stride)) =
        sym blank ∙ ap (λ (j : ℕ). node_of (with_path b.E key i (suc n)) b.R z.0 b.vs (path_no key j)) gap in
        rw (at, node)
        (kept_booked b key len v prefix absent (room_is b key len v prefix ∙ (rw (e, f) refl)) f _ _ _ (with_path b.E key i (suc n)) z.0 z.1 z.2
        (tree_put b.proper b.tree key len i (suc n) v prefix absent short gap)
        (subst (λ (j : ℕ). with_path b.E key i (suc n) (path_no key j) ≡ true) gap (made_there b.E key i n))
        (z.4 ∙ of_nodes (λ K c a. run K (nodes_come K (suc n) c) a ≡ run (node_pool N) (node_moves N rs (put key len v)) g.nodes) (ap (λ (ms : List Move). run (node_pool N) ms g.nodes) (sym node_moves_lem)))
        (z.5 ∙ b.node_size))

    -- the nodes, then the rule; or number 4
    below : masked key len ≡ key → Left b key len v prefix (insert_room N D g key len) (below_of s m key len v (place_here i) (depth i) (node_here i))
    unfolding below_of
    below shown =
        let z : (len - depth i) / stride ≡ suc n = omega arith in
        rw (z, nodes_number, first_number_lem, room_is b key len v prefix)
        (settle_both b (entered N D (put key len v) g) (stored key len (value_at rs key len)) (nodes_ok b key len v prefix) (cells_ok b key len v prefix) _
        (λ e f. record { answer = rw (absent, shown) refl; booked = made e f }))

  -- ---- where the walk ends

  -- at the node where the rule lives
  here : node_count rs key len ≡ suc (len / stride) → masked key len ≡ key
      → Left b key len v prefix (insert_room N D g key len)
      (cond (has (home_node b key len v prefix).data_bitmap (data_bit key len)) (replace_of s m key len v (home_node b key len v prefix))
      (here_of s m key len v (place_here (len / stride)) (home_node b key len v prefix)))
  here whole shown = go (value_at rs key len) refl
    where
      go : (o : Option Cell) → value_at rs key len ≡ o
          → Left b key len v prefix (insert_room N D g key len)
          (cond (has (home_node b key len v prefix).data_bitmap (data_bit key len)) (replace_of s m key len v (home_node b key len v prefix))
          (here_of s m key len v (place_here (len / stride)) (home_node b key len v prefix)))
      go none e = rw (data_live b.es b.vs b.tree key len prefix ∙ ap is_some e) (kept_here b key len v prefix e whole (there (len / stride) (omega arith)) shown)
      go (some w) e = rw (data_live b.es b.vs b.tree key len prefix ∙ ap is_some e) (replaced b key len v prefix w e shown)

  -- at level i, the last of the path that is there
  arrived : (i : ℕ) → node_count rs key len ≡ suc i → masked key len ≡ key
      → Left b key len v prefix (insert_room N D g key len) (arrived_of s m key len v (place_here i) (depth i) (node_here i))
  unfolding arrived_of
  arrived i short shown = go (dec_lt i (len / stride))
    where
      go : Dec (i < len / stride) → Left b key len v prefix (insert_room N D g key len) (arrived_of s m key len v (place_here i) (depth i) (node_here i))
      go (yes h) =
          let z : i + suc (len / stride - i - 1) ≡ len / stride = omega arith in
          rw (le-leb (depth i + stride) len (omega arith)) (below i (len / stride - i - 1) short z shown)
      go (no h) =
          let z : i ≡ len / stride = omega (arith, count_path rs key len prefix.short) in
          rw (lt-leb (depth i + stride) len (omega arith), z) (here (short ∙ ap suc z) shown)

-- ---- the whole insert

module _ {N D : ℕ} {g : Ledger Cell} {s : State} {m : Memory} (b : Booked N D g s m) (key len : ℕ) (v : Cell) (prefix : IsPrefix key len) where
  abbrev k : ℕ
  k = masked key len

  abbrev last : ℕ
  last = node_count g.rules k len - 1

  found : (t : Trail) × (trail_of m.nodes s.nodes.mark k len ≡ Ok t) × Walked b.E b.R b.es b.vs k (node_count g.rules k len) t
  found = trail_is b.image b.proper b.tree k len (masked_prefix key len prefix)

  abbrev walked : Walked b.E b.R b.es b.vs k (node_count g.rules k len) found.0
  walked = found.2

  -- the walk of an insert ends at the last node of its path that is there
  walks : insert_of s m key len v
      ≡ arrived_of s m k len v (place_of b.E b.es (path_no k last)) (depth last) (node_of b.E b.R b.es b.vs (path_no k last))
  unfolding insert_of walked_of
  walks =
      let z : depth last / stride ≡ last = omega arith in
      let r = count_root g.rules k len in
      rw (edit_first_lem b key len prefix.short, found.1, walked.ends, z, walked.path.place last (omega arith), walked.path.node last (omega arith)) refl

  -- AN INSERT leaves what the ledger says: added, replaced, or refused for room exactly where a block can't be supplied
  pub insert_done : Done N D (cond (insert_room N D g key len) (entered N D (put key len v) g) g)
      (cond (insert_room N D g key len) (stored key len (value_at g.rules key len)) NoRoom) (insert_of s m key len v)
  insert_done =
      let r = count_root g.rules k len in
      rw walks (done_as kept same (arrived b k len v (masked_prefix key len prefix) last (omega arith) (masked_again key len)))
    where
      shown : (o : Option Cell) → stored k len o ≡ stored key len o
      shown none = rw (masked_again key len) refl
      shown (some w) = rw (masked_again key len) refl

      same : cond (insert_room N D g k len) (stored k len (value_at g.rules k len)) NoRoom ≡ cond (insert_room N D g key len) (stored key len (value_at g.rules key len)) NoRoom
      same = rw (shown (value_at g.rules k len), insert_masked key len prefix.short N D g, value_masked key len prefix.short g.rules) refl

      kept : cond (insert_room N D g k len) (entered N D (put k len v) g) g ≡ cond (insert_room N D g key len) (entered N D (put key len v) g) g
      kept = rw (insert_masked key len prefix.short N D g, put_entered key len prefix.short N D g v) refl
