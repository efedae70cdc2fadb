-- A node's words after one item came or went, where other items then stand, and lent words after a block of items got one more or one less. Assumes nothing.
use mathlib.Core.Path.{◌≡◌, refl, sym, ◌∙◌}
use mathlib.Core.Bool.{Bool, true, false, cond}
use mathlib.Core.List.{List}
use Prim.Native.Nat.{ℕ, zero, suc, ◌+◌, ◌*◌, ◌/◌, ◌%◌, ◌≤◌, ◌<◌}
use native.Mathlib.Decide.{ℕ_discrete}
use native.Mathlib.Omega.{arith}
use lib.ListN.{length}
use borrow.Author.Tests.{eqb-true}
use Rattle.bits.specs.Bits.{with_bit, without_bit}
use Rattle.tiers.specs.Tiers.{child_top, empty, node_words, cell_words}
use Rattle.node.specs.declared.MultiBitNode.{MultiBitNode}
use Rattle.node.specs.Nodes.{empty_node}
use Rattle.blocks.specs.declared.Pool.{Pool}
use Rattle.blocks.specs.declared.Block.{Block}
use Rattle.blocks.specs.Growth.{grow_of, stays_of, fits_of}
use Rattle.store.specs.declared.Cell.{Cell}
use Rattle.store.specs.Words.{cell_at, empty_cell, node_at, save_node}
use Rattle.store.specs.Moves.{run_of, open_of, close_of, widen_cells, narrow_cells, widen_nodes, narrow_nodes}
use Rattle.store.proofs.Items.{Items, cells, nodes}
use Rattle.store.specs.Moves.{move_of}
use Rattle.store.proofs.Blocks.{GrowsInto, Apart, grows, grows_into, shrinks, shrinks_into}
use Rattle.edits.specs.Nodes.{with_rules, with_children}
use Rattle.pools.specs.Items.{upd, items, place_of}
use Rattle.pools.specs.Sound.{Owner, Sound, Widens, Narrows}
use Rattle.pools.proofs.Items.{upd_same, upd_other, parts, items_in, items_out, items_other, among_off, among_none}
use Rattle.pools.proofs.Growth.{place_below, write_sound, sound_values}
use Rattle.image.specs.Tree.{Shape}
use Rattle.image.specs.Image.{start_of, bits_of, node_of}
use Rattle.image.proofs.Words.{bits_with, bits_without, bits_other, bits_zero}

-- ---- the bitmap and the index of a set's owners, after the item x came or went

module _ (K : ℕ → Bool) (st : ℕ → ℕ) (x t : ℕ) where
  abbrev n : ℕ
  n = x / 32

  bits_in : with_bit (bits_of K n) (x % 32) ≡ bits_of (upd K x true) n
  bits_in = bits_with K n (x % 32) (omega arith) ∙ (rw (← parts x))

  start_in : K x ≡ false → start_of (items (upd K x true) n) (upd st n t n) ≡ t
  start_in h = rw (items_in K x h, upd_same st n t)

  bits_out : without_bit (bits_of K n) (x % 32) ≡ bits_of (upd K x false) n
  bits_out = bits_without K n (x % 32) (omega arith) ∙ (rw (← parts x))

  start_out : K x ≡ true → (items K n ≡ 1 → t ≡ empty) → start_of (items (upd K x false) n) (upd st n t n) ≡ t
  start_out h f = rw (upd_same st n t) (go (items (upd K x false) n) refl)
    where
      go : (c : ℕ) → items (upd K x false) n ≡ c → start_of c t ≡ t
      go zero e = sym (f (omega (arith, items_out K x h)))
      go (suc c) e = refl

  start_other : (m : ℕ) (b : Bool) → (n ≡ m → ⊥) → start_of (items (upd K x b) m) (upd st n t m) ≡ start_of (items K m) (st m)
  start_other m b f = rw (items_other K x m b f, upd_other st n m t f)

-- no items, no bits
bits_none : (K : ℕ → Bool) (n : ℕ) → items K n ≡ 0 → bits_of K n ≡ 0
bits_none K n h = eqb-true (bits_of K n) 0 (bits_zero K n ∙ (rw h))

-- ---- a node's words

module _ (E D : ℕ → Bool) (es vs : ℕ → ℕ) where
  -- a node with no children and no rules is empty
  pub blank : (n : ℕ) → items E n ≡ 0 → items D n ≡ 0 → node_of E D es vs n ≡ empty_node
  unfolding node_of
  blank n e d = rw (bits_none E n e, bits_none D n d, e, d)

  module _ (x t : ℕ) where
    -- a rule comes into its node
    pub with_rule : D x ≡ false
        → with_rules (node_of E D es vs (x / 32)) (with_bit (bits_of D (x / 32)) (x % 32)) t ≡ node_of E (upd D x true) es (upd vs (x / 32) t) (x / 32)
    unfolding node_of
    with_rule h = rw (bits_in D vs x t, start_in D vs x t h)

    -- a child comes below its node
    pub with_child : E x ≡ false
        → with_children (node_of E D es vs (x / 32)) (with_bit (bits_of E (x / 32)) (x % 32)) t ≡ node_of (upd E x true) D (upd es (x / 32) t) vs (x / 32)
    unfolding node_of
    with_child h = rw (bits_in E es x t, start_in E es x t h)

    -- a rule goes; the last one leaves no block
    pub without_rule : D x ≡ true → (items D (x / 32) ≡ 1 → t ≡ empty)
        → with_rules (node_of E D es vs (x / 32)) (without_bit (bits_of D (x / 32)) (x % 32)) t ≡ node_of E (upd D x false) es (upd vs (x / 32) t) (x / 32)
    unfolding node_of
    without_rule h f = rw (bits_out D vs x t, start_out D vs x t h f)

    -- a child goes; the last one leaves no block
    pub without_child : E x ≡ true → (items E (x / 32) ≡ 1 → t ≡ empty)
        → with_children (node_of E D es vs (x / 32)) (without_bit (bits_of E (x / 32)) (x % 32)) t ≡ node_of (upd E x false) D (upd es (x / 32) t) vs (x / 32)
    unfolding node_of
    without_child h f = rw (bits_out E es x t, start_out E es x t h f)

    module _ (n : ℕ) (b : Bool) (f : x / 32 ≡ n → ⊥) where
      -- no other node's words change: when a rule comes or goes
      pub other_rule : node_of E (upd D x b) es (upd vs (x / 32) t) n ≡ node_of E D es vs n
      unfolding node_of
      other_rule = rw (bits_other D x n b f, start_other D vs x t n b f)

      -- when a child comes or goes
      pub other_child : node_of (upd E x b) D (upd es (x / 32) t) vs n ≡ node_of E D es vs n
      unfolding node_of
      other_child = rw (bits_other E x n b f, start_other E es x t n b f)

-- nothing hangs on a node that isn't there
pub no_items : {E D : ℕ → Bool} → Shape E D → (n : ℕ) → 1 ≤ n → E n ≡ false → (items E n ≡ 0) × (items D n ≡ 0)
no_items {E} {D} s n h f = (
  among_none E (32 * n) 32 (λ i k. let z : (32 * n + i) / 32 ≡ n = omega arith in off (E (32 * n + i)) (λ e. rw z at (s.parent (32 * n + i) (omega arith) e))),
  among_none D (32 * n) 32 (λ i k. let z : (32 * n + i) / 32 ≡ n = omega arith in off (D (32 * n + i)) (λ e. rw z at (s.holder (32 * n + i) e))),
)
  where
    off : (b : Bool) → (b ≡ true → E n ≡ true) → b ≡ false
    off true g = sym (g refl) ∙ f
    off false g = refl

-- ---- items of other owners, and of the node pool where one node is written

-- the items of other owners keep their places when x comes or goes
pub place_other : (K : ℕ → Bool) (st : ℕ → ℕ) (x y t : ℕ) (b : Bool) → (x / 32 ≡ y / 32 → ⊥) → place_of (upd K x b) (upd st (x / 32) t) y ≡ place_of K st y
place_other K st x y t b f = rw (upd_other st (x / 32) (y / 32) t f, among_off K x (32 * (y / 32)) (y % 32) b (λ i h e. f (omega arith)))

-- a node's words are written at its place: it has them, and the other nodes have those that they had
pub node_written : {p : Pool} {f : List ℕ} (l : List ℕ) {E : ℕ → Bool} {es : ℕ → ℕ} {val val' : ℕ → MultiBitNode} {own : ℕ → Owner}
    → Sound child_top p f (node_at l) E es val own → length l ≡ p.size * node_words → (n : ℕ) → E n ≡ true
    → ((y : ℕ) → E y ≡ true → (n ≡ y → ⊥) → val y ≡ val' y)
    → Sound child_top p f (node_at (save_node l (place_of E es n) (val' n))) E es val' own
node_written l {E = E} {es = es} {val = val} {val' = val'} s w n h other =
    sound_values (λ y k. go y k (ℕ_discrete n y))
    (write_sound s n (val' n) (node_at (save_node l (place_of E es n) (val' n))) h
    (nodes.same l (place_of E es n) (val' n) (omega (arith, place_below s n h, s.blocks.shape.below)))
    (λ i g. nodes.other l (place_of E es n) i (val' n) g))
  where
    go : (y : ℕ) → E y ≡ true → Dec (n ≡ y) → upd val n (val' n) y ≡ val' y
    go y k (yes e) = rw (← e) (upd_same val n (val' n))
    go y k (no e) = upd_other val n y (val' n) e ∙ other y k e

-- the block of the owner of x with room for x: where it starts, the pool and the free list after
abbrev pub grown : ℕ → Pool → List ℕ → (ℕ → Bool) → (ℕ → ℕ) → ℕ → Block × List ℕ
grown top p l K st x = grow_of p top l (start_of (items K (x / 32)) (st (x / 32))) (items K (x / 32))

-- ---- a block of c items at `old` gets one more, or loses one, at slot k; another block would be at t

module _ {A : Type 0} {room : List ℕ → ℕ} {at : List ℕ → ℕ → A} {save : List ℕ → ℕ → A → List ℕ} (I : Items room at save) (e : A) where
  abbrev move : List ℕ → ℕ → ℕ → List ℕ
  move = move_of at save e

  abbrev opened : Bool → List ℕ → ℕ → ℕ → ℕ → ℕ → A → List ℕ
  opened here l old t c k x = save (open_of move here l old t c k) (cond here old t + k) x

  abbrev closed : Bool → List ℕ → ℕ → ℕ → ℕ → ℕ → List ℕ
  closed here l old t c k = close_of move here (save l (old + k) e) old t c k

  -- a block that moves gets one more; where there is no old block, nothing moves
  moves : (l : List ℕ) (old t c k : ℕ) (x : A) → k ≤ c → (0 < c → old + c ≤ room l) → t + c < room l → Apart old c t (suc c)
      → GrowsInto (at l) (at (opened false l old t c k x)) e x old t c k
  unfolding open_of run_of
  moves l old t zero zero x h f g a = record {
    grown = record { below = λ i p. absurd (omega arith); slot = I.same l (t + 0) x g; above = λ i p q. absurd (omega arith) };
    left = λ i p. absurd (omega arith);
    rest = λ i o u. I.other l (t + 0) i x (λ z. u (omega arith) (omega arith));
  }
  moves l old t zero (suc k) x h f g a = absurd (omega arith)
  moves l old t (suc c) k x h f g a = grows_into I e l old t (suc c) k x h (f (omega arith)) g a

  module _ (size top : ℕ) (l : List ℕ) (old t c k : ℕ) (r : room l ≡ size) where
    -- one more, for any way to hold items in words
    widens : (x : A) → k ≤ c → Widens size (at l) (at (opened (stays_of top c) l old t c k x)) e x top old t c k
    widens x h = record {
      here = λ s f. rw s (grows I e l old t c k x h (rw r f));
      there = λ s f g a. rw s (moves l old t c k x h (λ z. rw r (f z)) (rw r g) a);
    }

    -- one less
    narrows : k < c → Narrows size (at l) (at (closed (fits_of top c) l old t c k)) e top old t c k
    narrows h = record {
      here = λ s f. rw s (shrinks I e l old t c k h (rw r f));
      there = λ s f g a. rw s (shrinks_into I e l old t c k h (rw r f) (rw r g) a);
    }

module _ (size top : ℕ) (l : List ℕ) (old t c k : ℕ) where
  module _ (w : length l ≡ size * cell_words) where
    -- a block of cells gets one more
    pub cells_widen : (v : Cell) → k ≤ c → Widens size (cell_at l) (cell_at (widen_cells (stays_of top c) l old t c k v)) empty_cell v top old t c k
    unfolding widen_cells
    cells_widen v h = widens cells empty_cell size top l old t c k (omega arith) v h

    -- a block of cells loses one
    pub cells_narrow : k < c → Narrows size (cell_at l) (cell_at (narrow_cells (fits_of top c) l old t c k)) empty_cell top old t c k
    unfolding narrow_cells
    cells_narrow h = narrows cells empty_cell size top l old t c k (omega arith) h

  module _ (w : length l ≡ size * node_words) where
    -- a block of nodes gets one more, an empty one
    pub nodes_widen : k ≤ c → Widens size (node_at l) (node_at (widen_nodes (stays_of top c) l old t c k)) empty_node empty_node top old t c k
    unfolding widen_nodes
    nodes_widen h = widens nodes empty_node size top l old t c k (omega arith) empty_node h

    -- a block of nodes loses one
    pub nodes_narrow : k < c → Narrows size (node_at l) (node_at (narrow_nodes (fits_of top c) l old t c k)) empty_node top old t c k
    unfolding narrow_nodes
    nodes_narrow h = narrows nodes empty_node size top l old t c k (omega arith) h
