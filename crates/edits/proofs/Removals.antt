-- Laws of what a removal writes: the lengths of the lent slices and the shape of the pools stay, and nothing is written above a
-- node that isn't left empty, nor above the root. Assumes nothing.
use mathlib.Core.Path.{◌≡◌, refl, ◌∙◌}
use mathlib.Core.Bool.{Bool, true, false}
use mathlib.Core.List.{List}
use Prim.Native.Nat.{ℕ, zero, suc, ◌*◌}
use lib.ListN.{length, get_or}
use Rattle.tiers.specs.Tiers.{stride, data_top, child_top}
use Rattle.node.specs.declared.MultiBitNode.{MultiBitNode}
use Rattle.node.specs.Nodes.{empty_node}
use Rattle.bits.specs.Bits.{count}
use Rattle.blocks.specs.declared.Pool.{Pool}
use Rattle.blocks.proofs.Lengths.{shrink_length}
use Rattle.blocks.proofs.Shape.{InShape, shrink_shape}
use Rattle.store.proofs.Items.{node_length}
use Rattle.store.proofs.Changes.{narrow_cells_length, narrow_nodes_length}
use Rattle.edits.specs.Removing.{last_child, drop_of, up_of, prune_ask_of, prune_of}

module _ (p : Pool) (nodes cells f : List ℕ) (at : ℕ) (x : MultiBitNode) (b : ℕ) where
  -- a rule that goes keeps the lengths of nodes, cells and free list
  pub drop_lengths :
      (length (drop_of p nodes cells f at x b).1 ≡ length nodes) × (length (drop_of p nodes cells f at x b).2 ≡ length cells)
      × (length (drop_of p nodes cells f at x b).3 ≡ length f)
  unfolding drop_of
  drop_lengths =
      (node_length nodes at _, narrow_cells_length _ cells _ _ _ _, shrink_length p data_top f x.data_idx.0 (count x.data_bitmap))

  -- and the shape of the data pool
  pub drop_shape : InShape p data_top f → InShape (drop_of p nodes cells f at x b).0 data_top (drop_of p nodes cells f at x b).3
  unfolding drop_of
  drop_shape i = shrink_shape p data_top f x.data_idx.0 i (count x.data_bitmap)

module _ (p : Pool) (nodes f : List ℕ) (at : ℕ) (x : MultiBitNode) (d key : ℕ) where
  -- so does one parent that loses a child
  pub up_lengths : (length (up_of p nodes f at x d key).1 ≡ length nodes) × (length (up_of p nodes f at x d key).2 ≡ length f)
  unfolding up_of
  up_lengths = (node_length _ at _ ∙ narrow_nodes_length _ nodes _ _ _ _, shrink_length p child_top f x.children_idx.0 (count x.child_bitmap))

  pub up_shape : InShape p child_top f → InShape (up_of p nodes f at x d key).0 child_top (up_of p nodes f at x d key).2
  unfolding up_of
  up_shape i = shrink_shape p child_top f x.children_idx.0 i (count x.child_bitmap)

-- what every parent keeps, the whole way up keeps
pub prune_keeps :
    (P : Pool × List ℕ × List ℕ → Type 0) (key : ℕ)
    → ((p : Pool) (nodes f : List ℕ) (at : ℕ) (x : MultiBitNode) (d : ℕ) → P (p, nodes, f) → P (up_of p nodes f at x d key)) → (i : ℕ) (p : Pool) (nodes f places : List ℕ)
    (path : List MultiBitNode) (bare : Bool) → P (p, nodes, f) → P (prune_of i p nodes f places path key bare)
unfolding prune_of
prune_keeps P key s zero p nodes f places path bare h = h
prune_keeps P key s (suc i) p nodes f places path false h = h
prune_keeps P key s (suc i) p nodes f places path true h =
    let x = get_or path i empty_node in
    let u = up_of p nodes f (get_or places i 0) x (stride * i) key in
    prune_keeps P key s i u.0 u.1 u.2 places path (last_child x) (s p nodes f (get_or places i 0) x (stride * i) h)

module _ (i : ℕ) (p : Pool) (nodes f places : List ℕ) (path : List MultiBitNode) (key : ℕ) (bare : Bool) where
  -- the lengths of nodes and free list
  pub prune_lengths : (length (prune_of i p nodes f places path key bare).1 ≡ length nodes) × (length (prune_of i p nodes f places path key bare).2 ≡ length f)
  prune_lengths =
      prune_keeps (λ (r : Pool × List ℕ × List ℕ). (length r.1 ≡ length nodes) × (length r.2 ≡ length f)) key
      (λ q l g at x d h. ((up_lengths q l g at x d key).0 ∙ h.0, (up_lengths q l g at x d key).1 ∙ h.1)) i p nodes f places path bare (refl, refl)

  -- the shape of the node pool
  pub prune_shape : InShape p child_top f → InShape (prune_of i p nodes f places path key bare).0 child_top (prune_of i p nodes f places path key bare).2
  prune_shape h =
      prune_keeps (λ (r : Pool × List ℕ × List ℕ). InShape r.0 child_top r.2) key (λ q l g at x d. up_shape q l g at x d key) i p nodes f places path bare h

-- a node that isn't left empty keeps its place: nothing is asked and nothing written
pub prune_none :
    (i : ℕ) (p : Pool) (nodes f places : List ℕ) (path : List MultiBitNode) (key : ℕ) → prune_of i p nodes f places path key false ≡ (p, nodes, f)
unfolding prune_of
prune_none zero p nodes f places path key = refl
prune_none (suc i) p nodes f places path key = refl

pub prune_ask_none : (i : ℕ) (p : Pool) (lim : ℕ) (f : List ℕ) (path : List MultiBitNode) → prune_ask_of i p lim f path false ≡ 0
unfolding prune_ask_of
prune_ask_none zero p lim f path = refl
prune_ask_none (suc i) p lim f path = refl

-- the root is never given back: at level 0 nothing is asked and nothing written, empty or not
pub root_stays :
    (p : Pool) (nodes f places : List ℕ) (path : List MultiBitNode) (key : ℕ) (bare : Bool) → prune_of 0 p nodes f places path key bare ≡ (p, nodes, f)
unfolding prune_of
root_stays p nodes f places path key bare = refl

pub root_asks_nothing : (p : Pool) (lim : ℕ) (f : List ℕ) (path : List MultiBitNode) (bare : Bool) → prune_ask_of 0 p lim f path bare ≡ 0
unfolding prune_ask_of
root_asks_nothing p lim f path bare = refl
