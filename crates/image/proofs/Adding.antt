-- A node comes below a node of an image: its parent's block of children grows by an empty node, and the parent's words are written.
-- Missing nodes are made of such steps. Assumes nothing.
use mathlib.Core.Path.{◌≡◌, sym, ap, ◌∙◌}
use mathlib.Core.Bool.{Bool, true, false}
use mathlib.Core.Logic.{⊎_elim}
use mathlib.Core.List.{List}
use Prim.Native.Nat.{ℕ, suc, ◌+◌, ◌-◌, ◌*◌, ◌/◌, ◌%◌, ◌≤◌}
use native.Mathlib.Nat.{le_refl, add-zero}
use native.Mathlib.Decide.{ℕ_discrete}
use native.Mathlib.Omega.{arith}
use lib.ListN.{length}
use Rattle.bits.specs.Bits.{count, set_below, with_bit}
use Rattle.bits.proofs.Slots.{below_none}
use Rattle.tiers.specs.Tiers.{stride, child_top, node_words}
use Rattle.places.specs.Places.{child_bit}
use Rattle.node.specs.declared.MultiBitNode.{MultiBitNode}
use Rattle.node.specs.Nodes.{empty_node}
use Rattle.blocks.specs.declared.Pool.{Pool}
use Rattle.blocks.specs.declared.Block.{Block}
use Rattle.blocks.specs.Growth.{grow_of, stays_of}
use Rattle.store.specs.declared.Cell.{Cell}
use Rattle.store.specs.Words.{node_at, save_node}
use Rattle.store.specs.Moves.{run_of, open_of, widen_nodes}
use Rattle.store.proofs.Items.{node_length}
use Rattle.store.proofs.Changes.{widen_nodes_length}
use Rattle.edits.specs.declared.Made.{Made}
use Rattle.edits.specs.Nodes.{with_children}
use Rattle.edits.specs.Adding.{made_as, chain_of, make_of}
use Rattle.rules.specs.Account.{run}
use Rattle.rules.specs.Ledger.{rise}
use Rattle.rules.proofs.Returns.{Fits}
use Rattle.pools.specs.Items.{upd, items, slot, place_of}
use Rattle.pools.specs.Sound.{Owner, Sound}
use Rattle.pools.specs.Accounts.{kind_of, account_of, supplied}
use Rattle.pools.proofs.Items.{upd_same, upd_other, among_le, among_off, items_in, items_other, slot_le}
use Rattle.pools.proofs.Accounts.{grow_account, grow_size}
use Rattle.pools.proofs.Growth.{grow_sound}
use Rattle.image.specs.Tree.{Shape}
use Rattle.image.specs.Image.{start_of, bits_of, node_of, Image}
use Rattle.image.proofs.Words.{bits_count, bits_slot, start_some}
use Rattle.image.proofs.Chains.{more_cases, more_kept}
use Rattle.image.proofs.Changes.{blank, no_items, with_child, other_child, place_other, node_written, grown, nodes_widen}

-- one node comes below the node x at `at`, depth d: where it stands, pool, nodes, free list after
unfoldable pub born_of : Pool → List ℕ → List ℕ → ℕ → MultiBitNode → ℕ → ℕ → Made × List ℕ × List ℕ
born_of p nodes f at x d key =
    let b = child_bit d key in
    let c = count x.child_bitmap in
    let s = set_below x.child_bitmap b in
    let g = grow_of p child_top f x.children_idx.0 c in (
      made_as (g.0.start + s) g.0.pool,
      save_node (widen_nodes (stays_of child_top c) nodes x.children_idx.0 g.0.start c s) at (with_children x (with_bit x.child_bitmap b) g.0.start),
      g.1,
    )

-- n single nodes below the node that came
abbrev pub chain_from : ℕ → Made × List ℕ × List ℕ → ℕ → ℕ → Made × List ℕ × List ℕ
chain_from n b d key = chain_of n b.0.pool b.1 b.2 b.0.at d key

module _ (p : Pool) (nodes f : List ℕ) (at d key n : ℕ) where
  -- missing nodes: one comes, and then single nodes
  pub make_born : (x : MultiBitNode) → make_of p nodes f at x d key (suc n) ≡ chain_from n (born_of p nodes f at x d key) (d + stride) key
  unfolding make_of born_of
  make_born x = let z : suc n - 1 ≡ n = omega arith in rw z

  -- single nodes: one comes below an empty node, and then the rest
  pub chain_born : chain_of (suc n) p nodes f at d key ≡ chain_from n (born_of p nodes f at empty_node d key) (d + stride) key
  unfolding chain_of born_of grow_of stays_of widen_nodes open_of run_of
  chain_born = rw (below_none 32, below_none (child_bit d key), add-zero)

-- one node comes, and what is missing below it is made below an empty node
pub make_next : (p : Pool) (nodes f : List ℕ) (at d key n : ℕ) (x : MultiBitNode)
    → let b = born_of p nodes f at x d key in
    make_of p nodes f at x d key (suc (suc n)) ≡ make_of b.0.pool b.1 b.2 b.0.at empty_node (d + stride) key (suc n)
make_next p nodes f at d key n x =
    let b = born_of p nodes f at x d key in
    make_born p nodes f at d key (suc n) x ∙ chain_born b.0.pool b.1 b.2 b.0.at (d + stride) key n
    ∙ sym (make_born b.0.pool b.1 b.2 b.0.at (d + stride) key n empty_node)

module _
    {p : Pool} {nodes nf : List ℕ} {q : Pool} {cells cf : List ℕ} {E D : ℕ → Bool} {es vs : ℕ → ℕ} {val : ℕ → Cell} {on od : ℕ → Owner}
    (m : Image p nodes nf q cells cf E D es vs val on od) (x : ℕ) (far : 32 ≤ x) (above : E (x / 32) ≡ true) (new : E x ≡ false)
  where
    -- the parent, its children so far, and where they stand
    abbrev n : ℕ
    n = x / 32

    abbrev c : ℕ
    c = items E n

    abbrev old : ℕ
    old = start_of c (es n)

    -- the block with room for the new child, where it starts, and the nodes with that room
    abbrev g : Block × List ℕ
    g = grown child_top p nf E es x

    abbrev T : ℕ
    T = g.0.start

    abbrev wide : List ℕ
    wide = widen_nodes (stays_of child_top c) nodes old T c (slot E x)

    abbrev E' : ℕ → Bool
    E' = upd E x true

    abbrev es' : ℕ → ℕ
    es' = upd es n T

    -- what is written
    born_is : (at d key : ℕ) → child_bit d key ≡ x % 32
        → born_of p nodes nf at (node_of E D es vs n) d key ≡ (made_as (T + slot E x) g.0.pool, save_node wide at (node_of E' D es' vs n), g.1)
    born_is at d key b = written ∙ ap (λ (w : MultiBitNode). (made_as (T + slot E x) g.0.pool, save_node wide at w, g.1)) (with_child E D es vs x T new)
      where
        written : born_of p nodes nf at (node_of E D es vs n) d key
            ≡ (made_as (T + slot E x) g.0.pool, save_node wide at (with_children (node_of E D es vs n) (with_bit (bits_of E n) (x % 32)) T), g.1)
        written = unfold born_of node_of in rw (b, bits_count E n, bits_slot E n (x % 32) (omega arith))

    -- the new node has a parent
    born_shape : Shape E' D
    born_shape = record {
      root = more_kept E x 1 m.shape.root;
      alone = λ y h k. m.shape.alone y h (sym (upd_other E x y true (λ z. omega arith)) ∙ k);
      parent = λ y h k. more_kept E x (y / 32) (⊎_elim (λ z. rw (← z) above) (λ l. m.shape.parent y h l) (more_cases E x y k));
      holder = λ y h. more_kept E x (y / 32) (m.shape.holder y h);
      low = m.shape.low;
    }

    -- the parent stays where it was
    parent_place : place_of E' es' n ≡ place_of E es n
    parent_place = place_other E es x n T true (λ z. omega arith)

    -- where the new node stands
    born_place : T + slot E x ≡ place_of E' es' x
    born_place = rw (among_off E x (32 * n) (x % 32) true (λ i k z. omega arith), upd_same es n T)

    -- the new node is empty, and no node but its parent has other words than before
    born_words : (y : ℕ) → (n ≡ y → ⊥) → upd (node_of E D es vs) x empty_node y ≡ node_of E' D es' vs y
    born_words y f = go (ℕ_discrete x y)
      where
        none : (items E x ≡ 0) × (items D x ≡ 0)
        none = no_items m.shape x (omega arith) new

        go : Dec (x ≡ y) → upd (node_of E D es vs) x empty_node y ≡ node_of E' D es' vs y
        go (yes z) = rw (← z) (upd_same (node_of E D es vs) x empty_node ∙ sym (blank E' D es' vs x (items_other E x x true (λ w. omega arith) ∙ none.0) none.1))
        go (no z) = upd_other (node_of E D es vs) x y empty_node z ∙ sym (other_child E D es vs x T y true f)

    module _
        (s : supplied (kind_of child_top p) (rise (kind_of child_top p) c) (account_of p) ≡ true)
        (r : Fits (kind_of child_top p) (rise (kind_of child_top p) c) (account_of p))
      where
        -- the block of children with an empty node in it
        block_grown : (on' : ℕ → Owner) × Sound child_top g.0.pool g.1 (node_at wide) E' es' (upd (node_of E D es vs) x empty_node) on'
        block_grown =
            grow_sound m.trees (omega arith) (le_refl 32) x old empty_node empty_node (node_at wide) new
            (omega (arith, items_in E x new, among_le E' (32 * n) 32)) (start_some c (es n)) s r
            (nodes_widen p.size child_top nodes old T c (slot E x) m.nodes_length (slot_le E x))

        wide_words : length wide ≡ g.0.pool.size * node_words
        wide_words = widen_nodes_length (stays_of child_top c) nodes old T c (slot E x) ∙ (rw (grow_size child_top p nf old c) m.nodes_length)

        -- the image with the new node
        pub born_image : (key d : ℕ) → child_bit d key ≡ x % 32
            → let b = born_of p nodes nf (place_of E es n) (node_of E D es vs n) d key in
            (on' : ℕ → Owner) × Image b.0.pool b.1 b.2 q cells cf E' D es' vs val on' od × (b.0.at ≡ place_of E' es' x)
        born_image key d b = rw (born_is (place_of E es n) d key b, ← parent_place) (
          block_grown.0,
          record {
            shape = born_shape;
            trees = node_written wide block_grown.1 wide_words n (more_kept E x n above) (λ y h f. born_words y f);
            values = m.values;
            rooted = upd_other es n 0 T (λ z. omega arith) ∙ m.rooted;
            nodes_length = node_length wide (place_of E' es' n) _ ∙ wide_words;
            cells_length = m.cells_length;
          },
          born_place,
        )

        -- the node pool's account
        pub born_account : (at key d : ℕ) → child_bit d key ≡ x % 32
            → account_of (born_of p nodes nf at (node_of E D es vs n) d key).0.pool ≡ run (kind_of child_top p) (rise (kind_of child_top p) c) (account_of p)
        born_account at key d b = rw (born_is at d key b) (grow_account child_top p nf m.trees.blocks.shape old c s r)

        -- and its size
        pub born_size : (at key d : ℕ) → child_bit d key ≡ x % 32 → (born_of p nodes nf at (node_of E D es vs n) d key).0.pool.size ≡ p.size
        born_size at key d b = rw (born_is at d key b) (grow_size child_top p nf old c)
