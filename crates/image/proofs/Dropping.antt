-- What an image becomes where a node loses a rule, or a child that holds nothing: the image without it. Assumes nothing.
use mathlib.Core.Path.{◌≡◌, sym, ap, ◌∙◌}
use mathlib.Core.Bool.{Bool, true, false}
use mathlib.Core.List.{List}
use Prim.Native.Nat.{ℕ, ◌+◌, ◌*◌, ◌/◌, ◌%◌, ◌≤◌, ◌<◌}
use native.Mathlib.Nat.{le_refl}
use native.Mathlib.Decide.{ℕ_discrete}
use native.Mathlib.Omega.{arith}
use lib.ListN.{length}
use Rattle.tiers.specs.Tiers.{data_top, child_top, empty, node_words}
use Rattle.places.specs.Places.{child_bit}
use Rattle.node.specs.Nodes.{empty_node}
use Rattle.blocks.specs.declared.Pool.{Pool}
use Rattle.blocks.specs.declared.Block.{Block}
use Rattle.blocks.specs.Growth.{shrink_of, fits_of}
use Rattle.store.specs.declared.Cell.{Cell}
use Rattle.store.specs.Words.{cell_at, node_at, save_node, empty_cell}
use Rattle.store.specs.Moves.{narrow_cells, narrow_nodes}
use Rattle.store.proofs.Items.{node_length}
use Rattle.store.proofs.Changes.{narrow_cells_length, narrow_nodes_length}
use Rattle.edits.specs.Removing.{drop_of, up_of}
use Rattle.rules.specs.Account.{run}
use Rattle.rules.specs.Ledger.{fall}
use Rattle.rules.proofs.Returns.{Fits}
use Rattle.rules.proofs.Tests.{clash}
use Rattle.pools.specs.Items.{upd, items, slot, place_of}
use Rattle.pools.specs.Sound.{Owner}
use Rattle.pools.specs.Accounts.{kind_of, account_of, supplied}
use Rattle.pools.proofs.Items.{upd_same, upd_other, among_zero, slot_lt}
use Rattle.pools.proofs.Accounts.{shrink_size, shrink_account}
use Rattle.pools.proofs.Shrinkage.{shrink_sound}
use Rattle.image.specs.Tree.{Shape}
use Rattle.image.specs.Image.{node_of, Image}
use Rattle.image.proofs.Words.{bits_count, bits_slot, start_some}
use Rattle.image.proofs.Chains.{less_cases}
use Rattle.image.proofs.Changes.{without_rule, without_child, other_rule, other_child, place_other, node_written, cells_narrow, nodes_narrow}

-- ---- an item goes

-- what wasn't there isn't there then
none_left : (K : ℕ → Bool) (x y : ℕ) → K y ≡ false → upd K x false y ≡ false
none_left K x y e = go (ℕ_discrete x y)
  where
    go : Dec (x ≡ y) → upd K x false y ≡ false
    go (yes d) = ap (λ (z : ℕ). upd K z false y) d ∙ upd_same K y false
    go (no d) = upd_other K x y false d ∙ e

-- an item whose owner has none isn't there
none_of : (K : ℕ → Bool) (n y : ℕ) → items K n ≡ 0 → n ≡ y / 32 → K y ≡ false
none_of K n y z e = let d : 32 * n + y % 32 ≡ y = omega arith in sym (ap K d) ∙ among_zero K (32 * n) 32 z (y % 32) (omega arith)

-- the block of the owner of x without x: where it starts, the pool and the free list after
abbrev pub shrunk : ℕ → Pool → List ℕ → (ℕ → Bool) → (ℕ → ℕ) → ℕ → Block × List ℕ
shrunk top p l K st x = shrink_of p top l (st (x / 32)) (items K (x / 32))

-- the last item leaves no block
shrunk_last : (top : ℕ) (p : Pool) (l : List ℕ) (K : ℕ → Bool) (st : ℕ → ℕ) (x : ℕ) → items K (x / 32) ≡ 1 → (shrunk top p l K st x).0.start ≡ empty
unfolding shrink_of
shrunk_last top p l K st x e = rw e

-- ---- a rule goes

-- nothing hangs on a rule
drop_shape : {E D : ℕ → Bool} → Shape E D → (x : ℕ) → Shape E (upd D x false)
drop_shape {E} {D} s x = record {
  root = s.root;
  alone = s.alone;
  parent = s.parent;
  holder = λ y e. s.holder y (less_cases D x y e).0;
  low = λ n. none_left D x (32 * n + 31) (s.low n);
}

-- what is written, in terms of the rules
drop_is : (E D : ℕ → Bool) (es vs : ℕ → ℕ) (x : ℕ) → D x ≡ true → (q : Pool) (nodes cells cf : List ℕ) (at : ℕ)
    → let g = shrunk data_top q cf D vs x in
    drop_of q nodes cells cf at (node_of E D es vs (x / 32)) (x % 32) ≡ (
      g.0.pool,
      save_node nodes at (node_of E (upd D x false) es (upd vs (x / 32) g.0.start) (x / 32)),
      narrow_cells (fits_of data_top (items D (x / 32))) cells (vs (x / 32)) g.0.start (items D (x / 32)) (slot D x),
      g.1,
    )
unfolding drop_of node_of
drop_is E D es vs x d q nodes cells cf at =
    let h : slot D x < items D (x / 32) = slot_lt D x d in
    rw (
      bits_count D (x / 32),
      start_some (items D (x / 32)) (vs (x / 32)) (omega arith),
      bits_slot D (x / 32) (x % 32) (omega arith),
      ← without_rule E D es vs x (shrunk data_top q cf D vs x).0.start d (shrunk_last data_top q cf D vs x),
    )

-- ---- a child goes

-- nothing hangs on a node that holds nothing
up_shape : {E D : ℕ → Bool} → Shape E D → (x : ℕ) → 32 ≤ x → items E x ≡ 0 → items D x ≡ 0 → Shape (upd E x false) D
up_shape {E} {D} s x far no_child no_rule = record {
  root = upd_other E x 1 false (λ z. omega arith) ∙ s.root;
  alone = λ y l e. s.alone y l (less_cases E x y e).0;
  parent = λ y l e.
      let k = (less_cases E x y e).0 in
      upd_other E x (y / 32) false (λ z. clash (E y) k (none_of E x y no_child z)) ∙ s.parent y l k;
  holder = λ y e. upd_other E x (y / 32) false (λ z. clash (D y) e (none_of D x y no_rule z)) ∙ s.holder y e;
  low = s.low;
}

-- what is written, in terms of the nodes
up_is : (E D : ℕ → Bool) (es vs : ℕ → ℕ) (x : ℕ) → E x ≡ true → (p : Pool) (nodes nf : List ℕ) (at d key : ℕ) → child_bit d key ≡ x % 32
    → let g = shrunk child_top p nf E es x in
    up_of p nodes nf at (node_of E D es vs (x / 32)) d key ≡ (
      g.0.pool,
      save_node (narrow_nodes (fits_of child_top (items E (x / 32))) nodes (es (x / 32)) g.0.start (items E (x / 32)) (slot E x)) at
          (node_of (upd E x false) D (upd es (x / 32) g.0.start) vs (x / 32)),
      g.1,
    )
unfolding up_of node_of
up_is E D es vs x e p nodes nf at d key b =
    let h : slot E x < items E (x / 32) = slot_lt E x e in
    rw (
      b,
      bits_count E (x / 32),
      start_some (items E (x / 32)) (es (x / 32)) (omega arith),
      bits_slot E (x / 32) (x % 32) (omega arith),
      ← without_child E D es vs x (shrunk child_top p nf E es x).0.start e (shrunk_last child_top p nf E es x),
    )

-- ---- the images

module _
    {p : Pool} {nodes nf : List ℕ} {q : Pool} {cells cf : List ℕ} {E D : ℕ → Bool} {es vs : ℕ → ℕ} {val : ℕ → Cell} {on od : ℕ → Owner}
    (m : Image p nodes nf q cells cf E D es vs val on od) (x : ℕ)
  where
    abbrev n : ℕ
    n = x / 32

    -- where a rule goes, its value leaves the cells and its node is written anew: the image without the rule
    pub drop_image : D x ≡ true → supplied (kind_of data_top q) (fall (kind_of data_top q) (items D n)) (account_of q) ≡ true
        → Fits (kind_of data_top q) (fall (kind_of data_top q) (items D n)) (account_of q)
        → let k = drop_of q nodes cells cf (place_of E es n) (node_of E D es vs n) (x % 32) in
        (od' : ℕ → Owner) × Image p k.1 nf k.0 k.2 k.3 E (upd D x false) es (upd vs n (shrunk data_top q cf D vs x).0.start) val on od'
    drop_image d s f =
        let c = items D n in
        let t = (shrunk data_top q cf D vs x).0.start in
        let narrow = narrow_cells (fits_of data_top c) cells (vs n) t c (slot D x) in
        let sound = shrink_sound m.values (le_refl 31) (omega arith) x empty_cell (cell_at narrow) d s f
        (cells_narrow q.size data_top cells (vs n) t c (slot D x) m.cells_length (slot_lt D x d)) in
        rw (drop_is E D es vs x d q nodes cells cf (place_of E es n)) (
          sound.0,
          record {
            shape = drop_shape m.shape x;
            trees = node_written nodes m.trees m.nodes_length n (m.shape.holder x d) (λ y k z. sym (other_rule E D es vs x t y false z));
            values = sound.1;
            rooted = m.rooted;
            nodes_length = node_length nodes (place_of E es n) _ ∙ m.nodes_length;
            cells_length = narrow_cells_length (fits_of data_top c) cells (vs n) t c (slot D x) ∙ (rw (shrink_size data_top q cf (vs n) c) m.cells_length);
          },
        )

    -- the data pool keeps its size
    pub drop_size : D x ≡ true → (drop_of q nodes cells cf (place_of E es n) (node_of E D es vs n) (x % 32)).0.size ≡ q.size
    drop_size d = rw (drop_is E D es vs x d q nodes cells cf (place_of E es n)) (shrink_size data_top q cf (vs n) (items D n))

    -- and its account is the ledger's
    pub drop_account : D x ≡ true → supplied (kind_of data_top q) (fall (kind_of data_top q) (items D n)) (account_of q) ≡ true
        → Fits (kind_of data_top q) (fall (kind_of data_top q) (items D n)) (account_of q)
        → account_of (drop_of q nodes cells cf (place_of E es n) (node_of E D es vs n) (x % 32)).0 ≡ run (kind_of data_top q) (fall (kind_of data_top q) (items D n)) (account_of q)
    drop_account d s f =
        rw (drop_is E D es vs x d q nodes cells cf (place_of E es n))
        (shrink_account data_top q cf m.values.blocks.shape (vs n) (items D n) (omega (arith, slot_lt D x d)) s f)

    -- where a child that holds nothing goes, its parent is written anew: the image without the child
    pub up_image : 32 ≤ x → E x ≡ true → items E x ≡ 0 → items D x ≡ 0
        → supplied (kind_of child_top p) (fall (kind_of child_top p) (items E n)) (account_of p) ≡ true
        → Fits (kind_of child_top p) (fall (kind_of child_top p) (items E n)) (account_of p) → (key d : ℕ) → child_bit d key ≡ x % 32
        → let u = up_of p nodes nf (place_of E es n) (node_of E D es vs n) d key in
        (on' : ℕ → Owner) × Image u.0 u.1 u.2 q cells cf (upd E x false) D (upd es n (shrunk child_top p nf E es x).0.start) vs val on' od
    up_image far e no_child no_rule s f key d b =
        let c = items E n in
        let t = (shrunk child_top p nf E es x).0.start in
        let narrow = narrow_nodes (fits_of child_top c) nodes (es n) t c (slot E x) in
        let sound = shrink_sound m.trees (omega arith) (le_refl 32) x empty_node (node_at narrow) e s f
        (nodes_narrow p.size child_top nodes (es n) t c (slot E x) m.nodes_length (slot_lt E x e)) in
        let words : length narrow ≡ (shrunk child_top p nf E es x).0.pool.size * node_words =
        narrow_nodes_length (fits_of child_top c) nodes (es n) t c (slot E x) ∙ (rw (shrink_size child_top p nf (es n) c) m.nodes_length) in
        let stays : place_of (upd E x false) (upd es n t) n ≡ place_of E es n = place_other E es x n t false (λ z. omega arith) in
        let there : upd E x false n ≡ true = upd_other E x n false (λ z. omega arith) ∙ m.shape.parent x far e in
        rw (up_is E D es vs x e p nodes nf (place_of E es n) d key b) (
          sound.0,
          record {
            shape = up_shape m.shape x far no_child no_rule;
            trees = rw (← stays) (node_written narrow sound.1 words n there (λ y k z. sym (other_child E D es vs x t y false z)));
            values = m.values;
            rooted = upd_other es n 0 t (λ z. omega arith) ∙ m.rooted;
            nodes_length = node_length narrow (place_of E es n) _ ∙ words;
            cells_length = m.cells_length;
          },
        )

    -- the node pool keeps its size
    pub up_size : E x ≡ true → (key d : ℕ) → child_bit d key ≡ x % 32 → (up_of p nodes nf (place_of E es n) (node_of E D es vs n) d key).0.size ≡ p.size
    up_size e key d b = rw (up_is E D es vs x e p nodes nf (place_of E es n) d key b) (shrink_size child_top p nf (es n) (items E n))

    -- and its account is the ledger's
    pub up_account : E x ≡ true → supplied (kind_of child_top p) (fall (kind_of child_top p) (items E n)) (account_of p) ≡ true
        → Fits (kind_of child_top p) (fall (kind_of child_top p) (items E n)) (account_of p) → (key d : ℕ) → child_bit d key ≡ x % 32
        → account_of (up_of p nodes nf (place_of E es n) (node_of E D es vs n) d key).0 ≡ run (kind_of child_top p) (fall (kind_of child_top p) (items E n)) (account_of p)
    up_account e s f key d b =
        rw (up_is E D es vs x e p nodes nf (place_of E es n) d key b)
        (shrink_account child_top p nf m.trees.blocks.shape (es n) (items E n) (omega (arith, slot_lt E x e)) s f)
