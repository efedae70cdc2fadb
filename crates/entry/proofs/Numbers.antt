-- The first tests' number: no other than 0, 1, 3 and 5, 0 exactly where a call may go on, and what a fresh start's state gets. Assumes nothing.
use mathlib.Core.Path.{◌≡◌, refl, sym}
use mathlib.Core.Bool.{true, ◌&&◌}
use mathlib.Core.Logic.{◌⊎◌}
use Prim.Native.Nat.{ℕ, ◌*◌, ◌≤◌}
use native.Mathlib.Omega.{arith}
use borrow.Author.Tests.{leb-true, le-leb, eq-eqb}
use lib.Dec.{leb, eqb, leb-zero}
use Rattle.prefix.specs.Prefix.{width}
use Rattle.tiers.specs.Tiers.{pool_max, data_top, child_top, node_words, cell_words, spacings, free_list_length}
use Rattle.blocks.specs.declared.Pool.{Pool}
use Rattle.blocks.specs.Shape.{sections_of, sane_of}
use Rattle.entry.specs.First.{allowed, lookup_shaped, edit_shaped, sane_state, lookup_first, edit_first}
use Rattle.entry.specs.Fresh.{pool_as}
use Rattle.entry.proofs.Tests.{both, both_hold, four_numbers}
use Rattle.entry.proofs.Ways.{no_nodes_lem, no_lookup, lookup_3, lookup_0, edit_3, edit_0}
use Rattle.entry.proofs.Ready.{LookupReady, Ready, slices}

-- a number is one of 0, 1, 3 and 5
abbrev pub OneOf : ℕ → Type 0
OneOf n = (n ≡ 0) ⊎ ((n ≡ 1) ⊎ ((n ≡ 3) ⊎ (n ≡ 5)))

-- an allowed size
pub allowed_in : (n : ℕ) → 1 ≤ n → n ≤ pool_max → allowed n ≡ true
allowed_in n h k = both_hold (leb 1 n) (leb n pool_max) (le-leb 1 n h) (le-leb n pool_max k)

-- the right slices pass
slices_in : (n d nodes cells : ℕ) → allowed n ≡ true → allowed d ≡ true → nodes ≡ n * node_words → cells ≡ d * cell_words → lookup_shaped n d nodes cells ≡ true
unfolding lookup_shaped
slices_in n d nodes cells e f g h =
    both_hold (allowed n && allowed d && eqb nodes (n * node_words)) (eqb cells (d * cell_words))
    (both_hold (allowed n && allowed d) (eqb nodes (n * node_words)) (both_hold (allowed n) (allowed d) e f) (eq-eqb nodes (n * node_words) g))
    (eq-eqb cells (d * cell_words) h)

-- so do the right free lists
lists_in : (n d nodes cells node_free cell_free : ℕ) → lookup_shaped n d nodes cells ≡ true → node_free ≡ free_list_length (spacings child_top) n
    → cell_free ≡ free_list_length (spacings data_top) d → edit_shaped n d nodes cells node_free cell_free ≡ true
unfolding edit_shaped
lists_in n d nodes cells node_free cell_free e f g =
    let list = eqb node_free (free_list_length (spacings child_top) n) in
    both_hold (lookup_shaped n d nodes cells && list) (eqb cell_free (free_list_length (spacings data_top) d))
    (both_hold (lookup_shaped n d nodes cells) list e (eq-eqb node_free _ f)) (eq-eqb cell_free _ g)

-- the slices of an edit hold those of a lookup
pub lookup_of_lem : (n d nodes cells node_free cell_free : ℕ) → edit_shaped n d nodes cells node_free cell_free ≡ true → lookup_shaped n d nodes cells ≡ true
unfolding edit_shaped
lookup_of_lem n d nodes cells node_free cell_free e =
    let list = eqb node_free (free_list_length (spacings child_top) n) in
    (both (lookup_shaped n d nodes cells) list (both (lookup_shaped n d nodes cells && list) (eqb cell_free (free_list_length (spacings data_top) d)) e).0).0

-- so do right marks and counts
sane_in : (p q : Pool) (rules : ℕ) → sane_of p child_top ≡ true → sane_of q data_top ≡ true → rules ≤ q.size → sane_state p q rules ≡ true
unfolding sane_state
sane_in p q rules e f h =
    both_hold (sane_of p child_top && sane_of q data_top) (leb rules q.size) (both_hold (sane_of p child_top) (sane_of q data_top) e f) (le-leb rules q.size h)

-- a pool with nothing free is sane where its mark is within it
pub nothing_free : (top size mark : ℕ) → mark ≤ size → sane_of (pool_as size mark) top ≡ true
unfolding sane_of sections_of
nothing_free top size mark h = simp (le-leb mark size h, leb-zero)

-- a fresh start's pools are
fresh_sane : (n d nodes cells node_free cell_free : ℕ) → edit_shaped n d nodes cells node_free cell_free ≡ true → sane_state (pool_as n 1) (pool_as d 0) 0 ≡ true
fresh_sane n d nodes cells node_free cell_free e =
    let s = slices n d nodes cells (lookup_of_lem n d nodes cells node_free cell_free e) in
    let h = leb-true 1 n (both (leb 1 n) (leb n pool_max) s.node_size).0 in
    sane_in (pool_as n 1) (pool_as d 0) 0 (nothing_free child_top n 1 h) (nothing_free data_top d 0 (omega arith)) (omega arith)

-- ---- a lookup

module _ (p q : Pool) (rules nodes cells len : ℕ) where
  -- its slices pass
  look_shaped : LookupReady p q rules nodes cells len → lookup_shaped p.size q.size nodes cells ≡ true
  look_shaped r =
      slices_in p.size q.size nodes cells (allowed_in p.size r.some_nodes r.most_nodes) (allowed_in q.size r.some_cells r.most_cells)
      r.nodes_length r.cells_length

  -- its marks and counts pass
  look_sane : LookupReady p q rules nodes cells len → sane_state p q rules ≡ true
  look_sane r = sane_in p q rules r.sane_nodes r.sane_cells r.few_rules

  -- no other number
  pub lookup_numbers : OneOf (lookup_first p q rules nodes cells len)
  unfolding lookup_first
  lookup_numbers = four_numbers (lookup_shaped p.size q.size nodes cells) (leb len width) (sane_state p q rules)

  -- where a lookup may go on, the number is 0
  pub lookup_passes : LookupReady p q rules nodes cells len → lookup_first p q rules nodes cells len ≡ 0
  lookup_passes r = sym (lookup_0 p q rules nodes cells len (look_shaped r) r.short (look_sane r))

-- ---- an edit

module _ (p q : Pool) (rules nodes cells node_free cell_free key len : ℕ) where
  -- no other number
  pub edit_numbers : OneOf (edit_first p q rules nodes cells node_free cell_free key len)
  unfolding edit_first
  edit_numbers = four_numbers (edit_shaped p.size q.size nodes cells node_free cell_free) (leb len width) (sane_state p q rules)

  -- where an edit may go on, the number is 0
  pub edit_passes : Ready p q rules nodes cells node_free cell_free len → edit_first p q rules nodes cells node_free cell_free key len ≡ 0
  edit_passes r =
      sym
      (edit_0 p q rules nodes cells node_free cell_free key len
      (lists_in p.size q.size nodes cells node_free cell_free (look_shaped p q rules nodes cells len r.look) r.node_list r.cell_list)
      r.look.short
      (look_sane p q rules nodes cells len r.look))

-- ---- a fresh start's state

-- accepted: an edit over the same memory is refused for its length alone
pub fresh_edit : (n d nodes cells node_free cell_free key len : ℕ) → edit_shaped n d nodes cells node_free cell_free ≡ true → len ≤ width
    → edit_first (pool_as n 1) (pool_as d 0) 0 nodes cells node_free cell_free key len ≡ 0
fresh_edit n d nodes cells node_free cell_free key len e h =
    sym (edit_0 (pool_as n 1) (pool_as d 0) 0 nodes cells node_free cell_free key len e h (fresh_sane n d nodes cells node_free cell_free e))

-- and so is a lookup
pub fresh_lookup : (n d nodes cells node_free cell_free len : ℕ) → edit_shaped n d nodes cells node_free cell_free ≡ true → len ≤ width
    → lookup_first (pool_as n 1) (pool_as d 0) 0 nodes cells len ≡ 0
fresh_lookup n d nodes cells node_free cell_free len e h =
    sym (lookup_0 (pool_as n 1) (pool_as d 0) 0 nodes cells len (lookup_of_lem n d nodes cells node_free cell_free e) h (fresh_sane n d nodes cells node_free cell_free e))

-- refused: a later lookup meets its all-zero state with 3
pub zero_lookup : (nodes cells len : ℕ) → lookup_first (pool_as 0 0) (pool_as 0 0) 0 nodes cells len ≡ 3
zero_lookup nodes cells len = sym (lookup_3 (pool_as 0 0) (pool_as 0 0) 0 nodes cells len (sym (no_nodes_lem 0 0 nodes cells refl)))

-- and a later edit
pub zero_edit : (nodes cells node_free cell_free key len : ℕ) → edit_first (pool_as 0 0) (pool_as 0 0) 0 nodes cells node_free cell_free key len ≡ 3
zero_edit nodes cells node_free cell_free key len =
    sym
    (edit_3 (pool_as 0 0) (pool_as 0 0) 0 nodes cells node_free cell_free key len
    (sym (no_lookup 0 0 nodes cells node_free cell_free (sym (no_nodes_lem 0 0 nodes cells refl)))))
