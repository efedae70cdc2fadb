-- What a removal asks and writes: the rule's value, then nodes that have become empty, from the bottom up, never the root.
-- Every node is the one that the walk read, before the first write. Assumes nothing.
use Rattle.std.specs.Prelude.{ℕ, zero, suc, ◌*◌, Bool, ◌&&◌, cond, List, leb, eqb, get_or}
use Rattle.bits.specs.Bits.{count, set_below, without_bit}
use Rattle.tiers.specs.Tiers.{stride, data_top, child_top}
use Rattle.places.specs.Places.{child_bit}
use Rattle.node.specs.declared.MultiBitNode.{MultiBitNode}
use Rattle.node.specs.Nodes.{empty_node}
use Rattle.blocks.specs.declared.Pool.{Pool}
use Rattle.blocks.specs.Blocks.{within_of}
use Rattle.blocks.specs.Growth.{tier_in, shrink_ask_of, shrink_of, fits_of}
use Rattle.store.specs.Words.{save_node}
use Rattle.store.specs.Moves.{narrow_cells, narrow_nodes}
use Rattle.edits.specs.Nodes.{with_rules, with_children}

-- the node x loses a rule: its block is read for the value, then it shrinks by one
unfoldable pub drop_ask_of : Pool → List ℕ → MultiBitNode → ℕ
drop_ask_of p f x =
    let c = count x.data_bitmap in
    let w = within_of data_top p.mark (tier_in data_top c) x.data_idx.0 in
    cond (eqb w 0) (shrink_ask_of p data_top p.mark f x.data_idx.0 c).number w

-- the same, done: pool, nodes, cells, free list after
unfoldable pub drop_of : Pool → List ℕ → List ℕ → List ℕ → ℕ → MultiBitNode → ℕ → Pool × List ℕ × List ℕ × List ℕ
drop_of p nodes cells f at x b =
    let c = count x.data_bitmap in
    let g = shrink_of p data_top f x.data_idx.0 c in (
      g.0.pool,
      save_node nodes at (with_rules x (without_bit x.data_bitmap b) g.0.start),
      narrow_cells (fits_of data_top c) cells x.data_idx.0 g.0.start c (set_below x.data_bitmap b),
      g.1,
    )

-- nothing is left of a node whose last rule goes, or whose last child goes
abbrev pub last_rule : MultiBitNode → Bool
last_rule x = leb (count x.data_bitmap) 1 && eqb x.child_bitmap 0

abbrev pub last_child : MultiBitNode → Bool
last_child x = leb (count x.child_bitmap) 1 && eqb x.data_bitmap 0

-- from level i - 1 of the path up: while the node below has become empty, its parent loses it. The number, on the running pool and list
unfoldable pub prune_ask_of : ℕ → Pool → ℕ → List ℕ → List MultiBitNode → Bool → ℕ
prune_ask_of zero p lim f path bare = 0
prune_ask_of (suc i) p lim f path bare =
    let x = get_or path i empty_node in
    let c = count x.child_bitmap in
    let g = shrink_ask_of p child_top lim f x.children_idx.0 c in
    let s = shrink_of p child_top f x.children_idx.0 c in
    cond bare (cond (eqb g.number 0) (prune_ask_of i s.0.pool lim s.1 path (last_child x)) g.number) 0

-- the node x at `at`, depth d, loses the child on the key's path: its block of children shrinks by one. Pool, nodes, free list after
unfoldable pub up_of : Pool → List ℕ → List ℕ → ℕ → MultiBitNode → ℕ → ℕ → Pool × List ℕ × List ℕ
up_of p nodes f at x d key =
    let b = child_bit d key in
    let c = count x.child_bitmap in
    let g = shrink_of p child_top f x.children_idx.0 c in (
      g.0.pool,
      save_node (narrow_nodes (fits_of child_top c) nodes x.children_idx.0 g.0.start c (set_below x.child_bitmap b)) at
          (with_children x (without_bit x.child_bitmap b) g.0.start),
      g.1,
    )

-- the way up, done: pool, nodes, free list after
unfoldable pub prune_of : ℕ → Pool → List ℕ → List ℕ → List ℕ → List MultiBitNode → ℕ → Bool → Pool × List ℕ × List ℕ
prune_of zero p nodes f places path key bare = (p, nodes, f)
prune_of (suc i) p nodes f places path key bare =
    let x = get_or path i empty_node in
    let u = up_of p nodes f (get_or places i 0) x (stride * i) key in
    cond bare (prune_of i u.0 u.1 u.2 places path key (last_child x)) (p, nodes, f)
