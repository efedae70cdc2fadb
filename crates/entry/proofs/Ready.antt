-- What a call may rely on where its first tests give 0. Assumes nothing.
use mathlib.Core.Path.{◌≡◌}
use mathlib.Core.Bool.{true, ◌&&◌}
use Prim.Native.Nat.{ℕ, ◌*◌, ◌≤◌}
use native.Mathlib.Omega.{arith}
use borrow.Author.Tests.{leb-true, eqb-true}
use lib.Dec.{leb, eqb}
use Rattle.prefix.specs.Prefix.{width}
use Rattle.tiers.specs.Tiers.{pool_max, data_top, child_top, node_words, cell_words, spacings, free_list_length}
use Rattle.blocks.specs.declared.Pool.{Pool}
use Rattle.blocks.specs.Shape.{shaped_of, sections_of, sane_of}
use Rattle.entry.specs.First.{allowed, lookup_shaped, edit_shaped, sane_state, lookup_first, edit_first}
use Rattle.entry.proofs.Tests.{both, both_hold, zero_number}

-- a lookup over nodes p and cells q: slices of `nodes` and `cells` words
pub record LookupReady (p q : Pool) (rules nodes cells len : ℕ) : Type 0 where
  pub short : len ≤ width
  pub some_nodes : 1 ≤ p.size
  pub most_nodes : p.size ≤ pool_max
  pub some_cells : 1 ≤ q.size
  pub most_cells : q.size ≤ pool_max
  pub nodes_length : nodes ≡ p.size * node_words
  pub cells_length : cells ≡ q.size * cell_words
  pub sane_nodes : sane_of p child_top ≡ true
  pub sane_cells : sane_of q data_top ≡ true
  pub node_mark : p.mark ≤ p.size
  pub cell_mark : q.mark ≤ q.size
  pub few_rules : rules ≤ q.size
  pub issued_nodes : p.mark * 4 ≤ nodes
  pub issued_cells : q.mark ≤ cells

-- an edit: the same, and its free lists
pub record Ready (p q : Pool) (rules nodes cells node_free cell_free len : ℕ) : Type 0 where
  pub look : LookupReady p q rules nodes cells len
  pub node_list : node_free ≡ free_list_length (spacings child_top) p.size
  pub cell_list : cell_free ≡ free_list_length (spacings data_top) q.size
  pub shaped_nodes : shaped_of p child_top node_free ≡ true
  pub shaped_cells : shaped_of q data_top cell_free ≡ true

-- the mark of a sane pool is within it
pub mark_within : (p : Pool) (top : ℕ) → sane_of p top ≡ true → p.mark ≤ p.size
unfolding sane_of
mark_within p top e = leb-true _ _ (both (leb p.mark p.size) (sections_of 7 top p.size p.free) e).0

-- an allowed size and the right list have the shape that the blocks ask for
shaped : (p : Pool) (top list : ℕ) → allowed p.size ≡ true → eqb list (free_list_length (spacings top) p.size) ≡ true → shaped_of p top list ≡ true
unfolding shaped_of
shaped p top list e f = both_hold (allowed p.size) (eqb list (free_list_length (spacings top) p.size)) e f

-- what the tests of a lookup's slices say
pub record Slices (n d nodes cells : ℕ) : Type 0 where
  pub node_size : allowed n ≡ true
  pub cell_size : allowed d ≡ true
  pub nodes_length : nodes ≡ n * node_words
  pub cells_length : cells ≡ d * cell_words

-- and that they do
pub slices : (n d nodes cells : ℕ) → lookup_shaped n d nodes cells ≡ true → Slices n d nodes cells
unfolding lookup_shaped
slices n d nodes cells e =
    let a = both (allowed n && allowed d && eqb nodes (n * node_words)) (eqb cells (d * cell_words)) e in
    let b = both (allowed n && allowed d) (eqb nodes (n * node_words)) a.0 in
    let c = both (allowed n) (allowed d) b.0 in
    record { node_size = c.0; cell_size = c.1; nodes_length = eqb-true _ _ b.1; cells_length = eqb-true _ _ a.1 }

module _ (p q : Pool) (rules nodes cells len : ℕ) where
  -- the three tests say what a lookup relies on
  ready : lookup_shaped p.size q.size nodes cells ≡ true → leb len width ≡ true → sane_state p q rules ≡ true → LookupReady p q rules nodes cells len
  unfolding sane_state
  ready e f g =
      let s = slices p.size q.size nodes cells e in
      let a = both (leb 1 p.size) (leb p.size pool_max) s.node_size in
      let b = both (leb 1 q.size) (leb q.size pool_max) s.cell_size in
      let w = both (sane_of p child_top && sane_of q data_top) (leb rules q.size) g in
      let v = both (sane_of p child_top) (sane_of q data_top) w.0 in
      let j = mark_within p child_top v.0 in
      let k = mark_within q data_top v.1 in
      let x = s.nodes_length in
      let y = s.cells_length in
      record {
        short = leb-true len width f;
        some_nodes = leb-true 1 p.size a.0;
        most_nodes = leb-true p.size pool_max a.1;
        some_cells = leb-true 1 q.size b.0;
        most_cells = leb-true q.size pool_max b.1;
        nodes_length = x;
        cells_length = y;
        sane_nodes = v.0;
        sane_cells = v.1;
        node_mark = j;
        cell_mark = k;
        few_rules = leb-true rules q.size w.1;
        issued_nodes = omega arith;
        issued_cells = omega arith;
      }

  -- a lookup that isn't refused by its first tests
  pub lookup_ready : lookup_first p q rules nodes cells len ≡ 0 → LookupReady p q rules nodes cells len
  unfolding lookup_first
  lookup_ready e =
      let z = zero_number (lookup_shaped p.size q.size nodes cells) (leb len width) (sane_state p q rules) e in
      ready z.0 z.1 z.2

  -- an edit that isn't
  pub edit_ready : (node_free cell_free key : ℕ) → edit_first p q rules nodes cells node_free cell_free key len ≡ 0 → Ready p q rules nodes cells node_free cell_free len
  unfolding edit_first edit_shaped
  edit_ready node_free cell_free key e =
      let z = zero_number (edit_shaped p.size q.size nodes cells node_free cell_free) (leb len width) (sane_state p q rules) e in
      let list = eqb node_free (free_list_length (spacings child_top) p.size) in
      let a = both (lookup_shaped p.size q.size nodes cells && list) (eqb cell_free (free_list_length (spacings data_top) q.size)) z.0 in
      let b = both (lookup_shaped p.size q.size nodes cells) list a.0 in
      let s = slices p.size q.size nodes cells b.0 in
      record {
        look = ready b.0 z.1 z.2;
        node_list = eqb-true _ _ b.1;
        cell_list = eqb-true _ _ a.1;
        shaped_nodes = shaped p child_top node_free s.node_size b.1;
        shaped_cells = shaped q data_top cell_free s.cell_size a.1;
      }
