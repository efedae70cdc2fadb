-- Ways through the definitions, over plain variables: which test decides, and one more empty node. Assumes nothing.
use mathlib.Core.Path.{◌≡◌, refl}
use mathlib.Core.Bool.{Bool, true, false}
use mathlib.Core.List.{List}
use Prim.Native.Nat.{ℕ, ◌+◌, ◌≤◌, ◌<◌}
use native.Mathlib.Numerals.{add-one}
use borrow.Author.Tests.{le-leb, lt-leb}
use lib.Dec.{leb}
use Rattle.prefix.specs.Prefix.{width}
use Rattle.node.specs.Nodes.{empty_node}
use Rattle.blocks.specs.declared.Pool.{Pool}
use Rattle.store.specs.Words.{save_node}
use Rattle.entry.specs.First.{allowed, lookup_shaped, edit_shaped, sane_state, lookup_first, edit_first}
use Rattle.entry.specs.Fresh.{empty_nodes}
use Rattle.entry.proofs.Tests.{gives_3, gives_1, gives_0}

-- a node pool's size that isn't allowed: no slices are a lookup's
pub no_nodes_lem : (n d nodes cells : ℕ) → allowed n ≡ false → false ≡ lookup_shaped n d nodes cells
unfolding lookup_shaped
no_nodes_lem n d nodes cells e = simp e

-- the slices of a lookup are wrong: so are those of an edit
pub no_lookup : (n d nodes cells node_free cell_free : ℕ) → lookup_shaped n d nodes cells ≡ false → false ≡ edit_shaped n d nodes cells node_free cell_free
unfolding edit_shaped
no_lookup n d nodes cells node_free cell_free e = simp e

-- ---- the number of a lookup, and of an edit

module _ (p q : Pool) (rules nodes cells len : ℕ) where
  abbrev look : Bool
  look = lookup_shaped p.size q.size nodes cells

  -- wrong slices or sizes
  pub lookup_3 : look ≡ false → 3 ≡ lookup_first p q rules nodes cells len
  unfolding lookup_first
  lookup_3 e = gives_3 look (leb len width) (sane_state p q rules) e

  -- else a length above 32
  pub lookup_1 : look ≡ true → width < len → 1 ≡ lookup_first p q rules nodes cells len
  unfolding lookup_first
  lookup_1 e h = gives_1 look (leb len width) (sane_state p q rules) e (lt-leb len width h)

  -- nothing is wrong
  pub lookup_0 : look ≡ true → len ≤ width → sane_state p q rules ≡ true → 0 ≡ lookup_first p q rules nodes cells len
  unfolding lookup_first
  lookup_0 e h f = gives_0 look (leb len width) (sane_state p q rules) e (le-leb len width h) f

module _ (p q : Pool) (rules nodes cells node_free cell_free key len : ℕ) where
  abbrev edit : Bool
  edit = edit_shaped p.size q.size nodes cells node_free cell_free

  -- wrong slices or sizes
  pub edit_3 : edit ≡ false → 3 ≡ edit_first p q rules nodes cells node_free cell_free key len
  unfolding edit_first
  edit_3 e = gives_3 edit (leb len width) (sane_state p q rules) e

  -- else a length above 32
  pub edit_1 : edit ≡ true → width < len → 1 ≡ edit_first p q rules nodes cells node_free cell_free key len
  unfolding edit_first
  edit_1 e h = gives_1 edit (leb len width) (sane_state p q rules) e (lt-leb len width h)

  -- nothing is wrong
  pub edit_0 : edit ≡ true → len ≤ width → sane_state p q rules ≡ true → 0 ≡ edit_first p q rules nodes cells node_free cell_free key len
  unfolding edit_first
  edit_0 e h f = gives_0 edit (leb len width) (sane_state p q rules) e (le-leb len width h) f

-- ---- a fresh start's writes

-- one more node becomes empty
pub empty_more : (l : List ℕ) (i : ℕ) → empty_nodes (i + 1) l ≡ save_node (empty_nodes i l) i empty_node
unfolding empty_nodes
empty_more l i = rw add-one refl
