-- A fresh start that is accepted leaves an image of no rules: the invariant is inhabited. Assumes nothing.
use mathlib.Core.Path.{◌≡◌, refl, sym, ap, ◌∙◌, subst, fun_ext}
use mathlib.Core.Bool.{Bool, true, false, cond, ◌&&◌}
use mathlib.Core.List.{List}
use Prim.Native.Nat.{ℕ, zero, suc, ◌+◌, ◌*◌, ◌≤◌, ◌<◌}
use native.Mathlib.Omega.{arith}
use borrow.Author.Tests.{leb-true, eqb-true, ne_eqb, le-ltb}
use lib.Dec.{leb, eqb, ltb}
use lib.ListN.{length}
use Rattle.tiers.specs.Tiers.{spacings, spacing_of, tier_of, data_top, child_top, pool_max, node_words, cell_words, free_list_length}
use Rattle.blocks.specs.Blocks.{free_of}
use Rattle.blocks.proofs.Shape.{InShape}
use Rattle.store.specs.Words.{node_at, empty_cell}
use Rattle.entry.specs.First.{allowed, lookup_shaped, edit_shaped}
use Rattle.entry.specs.Fresh.{empty_nodes, zeros, pool_as}
use Rattle.entry.proofs.Tests.{both}
use Rattle.entry.proofs.Ready.{slices}
use Rattle.entry.proofs.Starts.{empty_length, zeros_length, empty_at}
use Rattle.map.specs.declared.State.{State}
use Rattle.map.specs.declared.Answer.TheVariants.{Started, WrongSlice}
use Rattle.map.specs.declared.Edited.{Edited}
use Rattle.map.specs.Memory.{Memory, memory, edited, state_as}
use Rattle.map.specs.Fresh.{fresh_of}
use Rattle.rules.specs.Sums.{sum}
use Rattle.rules.specs.Ledger.{fresh}
use Rattle.rules.proofs.Always.{fresh_balanced}
use Rattle.pools.specs.Items.{items, place_of}
use Rattle.pools.specs.Sound.{Owner, kept, unused, FreeAt, block_for, Coloured}
use Rattle.pools.specs.Accounts.{account_of}
use Rattle.pools.proofs.Items.{among_le, among_none}
use Rattle.image.specs.Tree.{Shape}
use Rattle.image.specs.Image.{node_of, Image}
use Rattle.image.proofs.Changes.{blank}
use Rattle.image.proofs.Trees.{tree_fresh, tree_shape}
use Rattle.history.proofs.Booked.{Booked}

-- the root alone
abbrev root_only : ℕ → Bool
root_only x = eqb x 1

abbrev none : ℕ → Bool
none x = false

abbrev nowhere : ℕ → ℕ
nowhere n = 0

-- the root's place is issued, in a block of its own
abbrev root_place : ℕ → Owner
root_place i = cond (ltb i 1) (kept 0) unused

abbrev no_place : ℕ → Owner
no_place i = unused

-- nothing is free
none_free : (size mark t : ℕ) → free_of (pool_as size mark) t ≡ 0
none_free size mark zero = refl
none_free size mark (suc zero) = refl
none_free size mark (suc (suc zero)) = refl
none_free size mark (suc (suc (suc zero))) = refl
none_free size mark (suc (suc (suc (suc zero)))) = refl
none_free size mark (suc (suc (suc (suc (suc zero))))) = refl
none_free size mark (suc (suc (suc (suc (suc (suc zero)))))) = refl
none_free size mark (suc (suc (suc (suc (suc (suc (suc t))))))) = refl

account : (size mark : ℕ) → account_of (pool_as size mark) ≡ record { mark = mark; free = λ t. 0 }
account size mark = ap (λ (f : ℕ → ℕ). record { mark = mark; free = f }) (fun_ext (none_free size mark))

no_free_lem : {A : Type 0} (top size mark : ℕ) (l : List ℕ) (t s : ℕ) → FreeAt top (pool_as size mark) l t s → A
no_free_lem top size mark l t s f = absurd (omega (arith, f.1, none_free size mark t))

-- a pool with nothing free, coloured
coloured : (top size mark : ℕ) (l : List ℕ) (own : ℕ → Owner) → InShape (pool_as size mark) top l → ((i : ℕ) → mark ≤ i → own i ≡ unused)
    → Coloured top (pool_as size mark) l own
coloured top size mark l own shape u =
    record {
      shape = shape;
      freed = λ t s i h f k. no_free_lem top size mark l t s f;
      once = λ t h i j a b e. absurd (omega (arith, none_free size mark t));
      fresh = u;
    }

in_shape : (top size mark : ℕ) (l : List ℕ) → allowed size ≡ true → mark ≤ size → length l ≡ free_list_length (spacings top) size → InShape (pool_as size mark) top (zeros l)
in_shape top size mark l e h w =
    let a = both (leb 1 size) (leb size pool_max) e in
    record {
      some = leb-true _ _ a.0;
      most = leb-true _ _ a.1;
      below = h;
      tiers = refl;
      counts = λ t k. omega (arith, none_free size mark t);
      whole = zeros_length l ∙ w;
    }

-- no owner but the root's has an item
root_items : (n : ℕ) → 0 < n → items root_only n ≡ 0
root_items n h = among_none root_only (32 * n) 32 (λ i k. ne_eqb (32 * n + i) 1 (λ z. omega arith))

no_items : (n : ℕ) → items none n ≡ 0
no_items n = among_none none (32 * n) 32 (λ i k. refl)

-- the root's items: one
one_root : items root_only 0 ≡ 1
unfolding sum
one_root = refl

root_mine : (n i : ℕ) → i < block_for child_top (items root_only n) → root_place (nowhere n + i) ≡ kept n
root_mine zero i h =
    let w : block_for child_top (items root_only 0) ≡ 1 = ap (block_for child_top) one_root ∙ (unfold spacing_of tier_of in refl) in
    let z : i ≡ 0 = omega arith in
    subst (λ (j : ℕ). root_place (0 + j) ≡ kept 0) (sym z) refl
root_mine (suc n) i h =
    let z : block_for child_top (items root_only (suc n)) ≡ 0 = ap (block_for child_top) (root_items (suc n) (omega arith)) in
    absurd (omega arith)

-- what an accepted start's tests say
pub record Lent (N D : ℕ) (lent : Memory) : Type 0 where
  pub node_size : allowed N ≡ true
  pub cell_size : allowed D ≡ true
  pub nodes : length lent.nodes ≡ N * node_words
  pub cells : length lent.cells ≡ D * cell_words
  pub node_list : length lent.node_free ≡ free_list_length (spacings child_top) N
  pub cell_list : length lent.cell_free ≡ free_list_length (spacings data_top) D

module _ (N D : ℕ) (lent : Memory) (w : Lent N D lent) where
  abbrev lists : Memory
  lists = memory (empty_nodes N lent.nodes) (zeros lent.cells) (zeros lent.node_free) (zeros lent.cell_free)

  some_nodes : 1 ≤ N
  some_nodes = leb-true 1 N (both (leb 1 N) (leb N pool_max) w.node_size).0

  -- the root's words
  root_there : (x : ℕ) → root_only x ≡ true → node_at lists.nodes (place_of root_only nowhere x) ≡ node_of root_only none nowhere nowhere x
  unfolding sum
  root_there x e =
      let z : x ≡ 1 = eqb-true x 1 e in
      subst (λ (y : ℕ). node_at lists.nodes (place_of root_only nowhere y) ≡ node_of root_only none nowhere nowhere y) (sym z)
      (empty_at N lent.nodes 0 some_nodes (omega (arith, w.nodes)) ∙ sym (blank root_only none nowhere nowhere 1 (root_items 1 (omega arith)) (no_items 1)))

  module _ (shape : Shape root_only none) where
    -- the image
    image : Image (pool_as N 1) lists.nodes lists.node_free (pool_as D 0) lists.cells lists.cell_free root_only none nowhere nowhere (λ x. empty_cell) root_place no_place
    image = record {
      shape = shape;
      trees = record {
        blocks = coloured child_top N 1 lists.node_free root_place (in_shape child_top N 1 lent.node_free w.node_size some_nodes w.node_list) (λ i h. rw (le-ltb i 1 h));
        mine = root_mine;
        few = λ n. among_le root_only (32 * n) 32;
        held = root_there;
      };
      values = record {
        blocks = coloured data_top D 0 lists.cell_free no_place (in_shape data_top D 0 lent.cell_free w.cell_size (omega arith) w.cell_list) (λ i h. refl);
        mine = λ n i h. let z : block_for data_top (items none n) ≡ 0 = ap (block_for data_top) (no_items n) in absurd (omega arith);
        few = λ n. omega (arith, no_items n);
        held = λ x e. let z : ◌≡◌ {A = ℕ} 0 1 = cc in absurd (omega arith);
      };
      rooted = refl;
      nodes_length = empty_length N lent.nodes ∙ w.nodes;
      cells_length = zeros_length lent.cells ∙ w.cells;
    }

-- a start that is accepted was lent what it asks for, and all of it is written
accepted : (N D : ℕ) (lent : Memory) (t : Bool) → edit_shaped N D (length lent.nodes) (length lent.cells) (length lent.node_free) (length lent.cell_free) ≡ t
    → (s : State) (m : Memory) → fresh_of lent N D ≡ (edited Started s, m)
    → Lent N D lent × (s ≡ state_as (pool_as N 1) (pool_as D 0) 0) × (m ≡ memory (empty_nodes N lent.nodes) (zeros lent.cells) (zeros lent.node_free) (zeros lent.cell_free))
unfolding fresh_of edit_shaped
accepted N D lent true e s m q =
    let a = both (lookup_shaped N D (length lent.nodes) (length lent.cells) && eqb (length lent.node_free) (free_list_length (spacings child_top) N)) (eqb (length lent.cell_free) (free_list_length (spacings data_top) D)) e in
    let b = both (lookup_shaped N D (length lent.nodes) (length lent.cells)) (eqb (length lent.node_free) (free_list_length (spacings child_top) N)) a.0 in
    let c = slices N D (length lent.nodes) (length lent.cells) b.0 in
    let r : ◌≡◌ {A = Edited × Memory} (edited Started (state_as (pool_as N 1) (pool_as D 0) 0), memory (empty_nodes N lent.nodes) (zeros lent.cells) (zeros lent.node_free) (zeros lent.cell_free)) (edited Started s, m) = rw e at q in (
      record { node_size = c.node_size; cell_size = c.cell_size; nodes = c.nodes_length; cells = c.cells_length; node_list = eqb-true _ _ b.1; cell_list = eqb-true _ _ a.1 },
      sym (ap (λ (x : Edited × Memory). x.0.state) r),
      sym (ap (λ (x : Edited × Memory). x.1) r),
    )
accepted N D lent false e s m q =
    let r : ◌≡◌ {A = Edited × Memory} (edited WrongSlice (state_as (pool_as 0 0) (pool_as 0 0) 0), lent) (edited Started s, m) = rw e at q in
    let w : WrongSlice ≡ Started = ap (λ (x : Edited × Memory). x.0.answer) r in
    let z : ◌≡◌ {A = ℕ} 0 1 = cc in
    absurd (omega arith)

-- THE START: the invariant holds of no rules
pub booked_fresh : (N D : ℕ) (lent m : Memory) (s : State) → fresh_of lent N D ≡ (edited Started s, m) → Booked N D fresh s m
unfolding fresh
booked_fresh N D lent m s q =
    let a = accepted N D lent (edit_shaped N D (length lent.nodes) (length lent.cells) (length lent.node_free) (length lent.cell_free)) refl s m q in
    rw (a.1, a.2) (booked a.0)
  where
    booked : (w : Lent N D lent)
        → Booked N D fresh (state_as (pool_as N 1) (pool_as D 0) 0) (memory (empty_nodes N lent.nodes) (zeros lent.cells) (zeros lent.node_free) (zeros lent.cell_free))
    booked w = record {
      E = root_only;
      R = none;
      es = nowhere;
      vs = nowhere;
      val = λ x. empty_cell;
      on = root_place;
      od = no_place;
      image = image N D lent w (tree_shape {val = λ x. empty_cell} tt tree_fresh);
      tree = tree_fresh;
      proper = tt;
      balanced = fresh_balanced N D (some_nodes N D lent w);
      node_size = refl;
      cell_size = refl;
      node_account = account N 1;
      cell_account = account D 0;
      count = refl;
    }
