-- A removal of a stored rule on a booked map: its numbers are the ledger's, and what is written is the ledger with the removal entered. Assumes nothing.
use mathlib.Core.Path.{◌≡◌, refl, sym, ap, ◌∙◌, subst}
use mathlib.Core.Bool.{Bool, true, cond, ◌&&◌}
use mathlib.Core.Option.{some}
use mathlib.Core.List.{List}
use Prim.Native.Nat.{ℕ, suc, ◌+◌, ◌-◌, ◌/◌, ◌≤◌, ◌<◌}
use native.Mathlib.Decide.{dec_lt}
use native.Mathlib.Omega.{arith}
use borrow.Author.Tests.{le-leb}
use lib.Dec.{ltb}
use Rattle.bits.specs.Bits.{count}
use Rattle.prefix.specs.Prefix.{first}
use Rattle.tiers.specs.Tiers.{stride, data_top, child_top}
use Rattle.places.specs.Places.{child_bit}
use Rattle.places.proofs.Children.{child_lt}
use Rattle.node.specs.declared.MultiBitNode.{MultiBitNode}
use Rattle.blocks.specs.declared.Pool.{Pool}
use Rattle.blocks.specs.Blocks.{within_of}
use Rattle.blocks.specs.Growth.{tier_in}
use Rattle.store.specs.declared.Cell.{Cell}
use Rattle.edits.specs.Removing.{drop_ask_of, last_rule, last_child, prune_ask_of, prune_of}
use Rattle.map.specs.declared.State.{State}
use Rattle.map.specs.Memory.{Memory}
use Rattle.rules.specs.Rules.{Rules, del, value_at, is_some, without, IsPrefix}
use Rattle.rules.specs.Nodes.{depth, node_count}
use Rattle.rules.specs.Account.{Kind, node_pool, cell_pool, Account, Move, run}
use Rattle.rules.specs.Ledger.{Ledger, fall, nodes_go, emptied, lowest, children_on, data_on, node_moves, cell_moves, remove_room}
use Rattle.rules.proofs.Returns.{Fits, remove_fits}
use Rattle.rules.proofs.Room.{remove_room_lem}
use Rattle.rules.proofs.Paths.{count_root, count_path, count_live}
use Rattle.pools.specs.Items.{items}
use Rattle.pools.specs.Sound.{block_for}
use Rattle.pools.specs.Accounts.{kind_of, account_of, supplied, number_of}
use Rattle.pools.proofs.Items.{items_out}
use Rattle.pools.proofs.Colours.{coloured_stock}
use Rattle.pools.proofs.Growth.{block_below}
use Rattle.pools.proofs.Numbers.{block_tier, shrink_number}
use Rattle.image.specs.Numbers.{path_no, rule_no}
use Rattle.image.specs.Image.{node_of}
use Rattle.image.proofs.Paths.{path_low, path_child, rule_node}
use Rattle.image.proofs.Trees.{children_are}
use Rattle.image.proofs.Words.{bits_count, bits_zero, start_some}
use Rattle.image.proofs.Blocks.{items_some}
use Rattle.image.proofs.Bare.{emptied_le, last_rule_lem, last_child_lem, only_child}
use Rattle.image.proofs.Descents.{level_there}
use Rattle.image.proofs.Climbing.{last_child_is}
use Rattle.image.proofs.Pruning.{prune_number}
use Rattle.image.proofs.Trails.{Filled}
use Rattle.history.proofs.Booked.{Booked, node_kind}
use Rattle.history.proofs.Settling.{alike}
use Rattle.history.proofs.Homes.{of_cells}

-- the root never goes, whatever the flag
root_ask : (i : ℕ) → i ≡ 0 → (p : Pool) (lim : ℕ) (f : List ℕ) (path : List MultiBitNode) (x y : Bool) → prune_ask_of i p lim f path x ≡ prune_ask_of i p lim f path y
unfolding prune_ask_of
root_ask i e p lim f path x y = rw e refl

pub root_stays : (i : ℕ) → i ≡ 0 → (p : Pool) (nodes f places : List ℕ) (path : List MultiBitNode) (key : ℕ) (x y : Bool)
    → prune_of i p nodes f places path key x ≡ prune_of i p nodes f places path key y
unfolding prune_of
root_stays i e p nodes f places path key x y = rw e refl

module _ {N D : ℕ} {g : Ledger Cell} {s : State} {m : Memory} (b : Booked N D g s m) (key len : ℕ) (prefix : IsPrefix key len)
    (old : Cell) (stored : value_at g.rules key len ≡ some old)
  where
    abbrev rs : Rules Cell
    rs = g.rules

    -- the level and the node where the rule lives, and how many nodes its removal empties
    abbrev pub end : ℕ
    end = len / stride

    abbrev pub home : ℕ
    home = path_no key (len / stride)

    abbrev pub home_node : MultiBitNode
    home_node = node_of b.E b.R b.es b.vs home

    abbrev gone : ℕ
    gone = emptied rs key len

    -- the ledger supplies the nodes, and the cells
    abbrev pub nodes_ok : Bool
    nodes_ok = supplied (node_pool N) (node_moves N rs (del key len)) g.nodes

    abbrev pub cells_ok : Bool
    cells_ok = supplied (cell_pool D) (cell_moves D rs (del key len)) g.cells

    pub room_is : remove_room N D g key len ≡ nodes_ok && cells_ok
    room_is = remove_room_lem N D g key len b.balanced.node_mark b.balanced.cell_mark

    -- ---- the data pool

    -- the rule is in its node
    pub own : b.R (rule_no key len) ≡ true
    own = b.tree.rule_is key len prefix ∙ ap is_some stored

    pub some_rule : 0 < items b.R home
    some_rule = subst (λ (n : ℕ). 0 < items b.R n) (rule_node key len) (let e = items_out b.R (rule_no key len) own in omega arith)

    cell_moves_lem : cell_moves D rs (del key len) ≡ fall (cell_pool D) (data_on rs key len)
    unfolding cell_moves
    cell_moves_lem = rw stored

    pub cells_fit : Fits (kind_of data_top s.cells) (fall (kind_of data_top s.cells) (items b.R home)) (account_of s.cells)
    cells_fit = of_cells b key len prefix (λ K c a. Fits K (fall K c) a)
        (subst (λ (ms : List Move). Fits (cell_pool D) ms g.cells) cell_moves_lem (remove_fits N D g b.proper b.balanced key len prefix old stored).1)

    pub cells_given : cells_ok ≡ true → supplied (kind_of data_top s.cells) (fall (kind_of data_top s.cells) (items b.R home)) (account_of s.cells) ≡ true
    cells_given e = of_cells b key len prefix (λ K c a. supplied K (fall K c) a ≡ true) (subst (λ (ms : List Move). supplied (cell_pool D) ms g.cells ≡ true) cell_moves_lem e)

    -- the account after it, too
    pub ledger_cells : run (kind_of data_top s.cells) (fall (kind_of data_top s.cells) (items b.R home)) (account_of s.cells) ≡ run (cell_pool D) (cell_moves D rs (del key len)) g.cells
    ledger_cells = of_cells b key len prefix (λ K c a. run K (fall K c) a ≡ run (cell_pool D) (cell_moves D rs (del key len)) g.cells) (ap (λ (ms : List Move). run (cell_pool D) ms g.cells) (sym cell_moves_lem))

    -- the block of its node lies below the mark
    block : b.vs home + block_for data_top (items b.R home) ≤ s.cells.mark
    block = block_below b.image.values home some_rule

    within : within_of data_top s.cells.mark (tier_in data_top (items b.R home)) (b.vs home) ≡ 0
    unfolding within_of
    within = rw (le-leb _ s.cells.mark (subst (λ (x : ℕ). b.vs home + x ≤ s.cells.mark) (block_tier data_top (items b.R home) some_rule) block)) refl

    -- the number of the data block is the ledger's
    pub cells_number : drop_ask_of s.cells m.cell_free home_node ≡ cond cells_ok 0 4
    unfolding drop_ask_of node_of
    cells_number =
        rw (bits_count b.R home, start_some (items b.R home) (b.vs home) some_rule, within)
        (shrink_number data_top s.cells m.cell_free s.cells.mark (coloured_stock data_top s.cells m.cell_free b.od b.image.values.blocks)
        (b.vs home) (items b.R home) some_rule block cells_fit
        ∙ of_cells b key len prefix (λ K c a. number_of K (fall K c) a ≡ cond cells_ok 0 4) (ap (λ (ms : List Move). number_of (cell_pool D) ms g.cells) (sym cell_moves_lem)))

    -- ---- the node pool

    -- the path's nodes down to the rule's own are there, and each above it has a child
    pub there : (j : ℕ) → j ≤ end → b.E (path_no key j) ≡ true
    there j h = level_there b.image b.tree key len prefix j (omega (arith, count_live rs key len old prefix.short stored))

    some_child : (j : ℕ) → j < end → 0 < items b.E (path_no key j)
    some_child j h =
        items_some b.E (path_no key j) (child_bit (depth j) key) (child_lt (depth j) key)
        (subst (λ (x : ℕ). b.E x ≡ true) (path_child key j (omega (arith, prefix.short))) (there (suc j) (omega arith)))

    pub few : gone ≤ end
    few = emptied_le rs key len old prefix stored

    -- the lowest node that is left has as many children as the ledger says
    children : items b.E (path_no key (end - gone)) ≡ children_on rs key (lowest (without key len rs) key len)
    unfolding lowest emptied
    children =
        let z : node_count (without key len rs) key len - 1 ≡ end - (node_count rs key len - node_count (without key len rs) key len) =
        omega (arith, count_live rs key len old prefix.short stored, count_root (without key len rs) key len, count_path (without key len rs) key len prefix.short) in
        rw z (children_are b.proper b.tree (end - (node_count rs key len - node_count (without key len rs) key len)) (first (depth (end - (node_count rs key len - node_count (without key len rs) key len))) key)
        (omega (arith, prefix.short)) (path_low key (end - (node_count rs key len - node_count (without key len rs) key len)) prefix.bits (omega (arith, prefix.short))))

    of_nodes : (P : Kind → ℕ → Account → Type 0) → P (node_pool N) (children_on rs key (lowest (without key len rs) key len)) g.nodes
        → P (kind_of child_top s.nodes) (items b.E (path_no key (end - gone))) (account_of s.nodes)
    of_nodes P p = alike P (node_kind b) children b.node_account p

    pub nodes_fit : Fits (kind_of child_top s.nodes) (nodes_go (kind_of child_top s.nodes) gone (items b.E (path_no key (end - gone)))) (account_of s.nodes)
    nodes_fit = of_nodes (λ K c a. Fits K (nodes_go K gone c) a) (unfold node_moves in (remove_fits N D g b.proper b.balanced key len prefix old stored).0)

    pub nodes_given : nodes_ok ≡ true → supplied (kind_of child_top s.nodes) (nodes_go (kind_of child_top s.nodes) gone (items b.E (path_no key (end - gone)))) (account_of s.nodes) ≡ true
    nodes_given e = of_nodes (λ K c a. supplied K (nodes_go K gone c) a ≡ true) (unfold node_moves in e)

    pub ledger_nodes : run (kind_of child_top s.nodes) (nodes_go (kind_of child_top s.nodes) gone (items b.E (path_no key (end - gone)))) (account_of s.nodes)
        ≡ run (node_pool N) (node_moves N rs (del key len)) g.nodes
    ledger_nodes = of_nodes (λ K c a. run K (nodes_go K gone c) a ≡ run (node_pool N) (node_moves N rs (del key len)) g.nodes) (unfold node_moves in refl)

    -- nothing is left of the rule's node exactly where the removal empties nodes
    pub last : 0 < end → last_rule home_node ≡ ltb 0 gone
    unfolding node_of
    last h = rw (bits_count b.R home, bits_zero b.E home) (last_rule_lem b.proper b.tree key len old prefix stored h)

    child_test : (j : ℕ) → 0 < j → j < end → end < suc j + gone
        → last_child (node_of b.E b.R b.es b.vs (path_no key j)) ≡ ltb (end - j) gone
    child_test j h k l = last_child_is b.E b.R b.es b.vs (path_no key j) ∙ last_child_lem b.proper b.tree key len old prefix stored j h k l

    module _ (places : List ℕ) (path : List MultiBitNode) (walked : Filled b.E b.R b.es b.vs key (node_count rs key len) places path) where
      counted : node_count rs key len ≡ suc end
      counted = count_live rs key len old prefix.short stored

      -- the number of the emptied nodes is the ledger's
      number : (flag : Bool) → flag ≡ ltb 0 gone → prune_ask_of end s.nodes s.nodes.mark m.node_free path flag ≡ cond nodes_ok 0 4
      number flag e =
          prune_number key end gone s.nodes.mark s.nodes m.node_free path flag (λ j. items b.E (path_no key j)) (λ j. b.es (path_no key j))
          (λ j h. ap (λ (x : MultiBitNode). count x.child_bitmap) (walked.node j (omega (arith, counted))) ∙ (unfold node_of in (bits_count b.E (path_no key j))))
          (λ j h k. ap (λ (x : MultiBitNode). x.children_idx.0) (walked.node j (omega (arith, counted))) ∙ (unfold node_of in (start_some (items b.E (path_no key j)) (b.es (path_no key j)) k)))
          few e
          (λ j h k l. ap last_child (walked.node j (omega (arith, counted))) ∙ child_test j l h k)
          (λ j h k. only_child b.proper b.tree key len old prefix stored j (omega (arith, few)) h k)
          (λ h. some_child (end - gone) (omega (arith, few)))
          (coloured_stock child_top s.nodes m.node_free b.on b.image.trees.blocks)
          (λ j h k. block_below b.image.trees (path_no key j) (some_child j h))
          nodes_fit
          ∙ of_nodes (λ K c a. number_of K (nodes_go K gone c) a ≡ cond nodes_ok 0 4) (unfold node_moves in refl)

      pub nodes_number : prune_ask_of end s.nodes s.nodes.mark m.node_free path (last_rule home_node) ≡ cond nodes_ok 0 4
      nodes_number = go (dec_lt 0 end)
        where
          go : Dec (0 < end) → prune_ask_of end s.nodes s.nodes.mark m.node_free path (last_rule home_node) ≡ cond nodes_ok 0 4
          go (yes h) = number (last_rule home_node) (last h)
          go (no h) =
              let z : end ≡ 0 = omega arith in
              root_ask end z s.nodes s.nodes.mark m.node_free path (last_rule home_node) (ltb 0 gone) ∙ number (ltb 0 gone) refl
