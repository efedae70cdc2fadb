-- What one write of a removal leaves, over plain variables: a parent's child. Assumes nothing.
use mathlib.Core.Path.{◌≡◌}
use mathlib.Core.Bool.{Bool}
use mathlib.Core.List.{List}
use Prim.Native.Nat.{ℕ}
use Rattle.bits.specs.Bits.{count, set_below, without_bit}
use Rattle.tiers.specs.Tiers.{child_top}
use Rattle.places.specs.Places.{child_bit}
use Rattle.node.specs.declared.MultiBitNode.{MultiBitNode}
use Rattle.blocks.specs.declared.Pool.{Pool}
use Rattle.blocks.specs.declared.Block.{Block}
use Rattle.blocks.specs.Growth.{shrink_of, fits_of}
use Rattle.store.specs.Words.{save_node}
use Rattle.store.specs.Moves.{narrow_nodes}
use Rattle.edits.specs.Nodes.{with_children}
use Rattle.edits.specs.Removing.{up_of}

-- a child goes out of its parent, step by step
pub upped :
    (p : Pool) (l f : List ℕ) (at : ℕ) (x : MultiBitNode) (d key c : ℕ) → c ≡ count x.child_bitmap → (b : ℕ) → b ≡ child_bit d key
    → (s : ℕ) → s ≡ set_below x.child_bitmap b → (g : Block) (f₂ : List ℕ) → (g, f₂) ≡ shrink_of p child_top f x.children_idx.0 c
    → (here : Bool) → here ≡ fits_of child_top c → (l₁ : List ℕ) → l₁ ≡ narrow_nodes here l x.children_idx.0 g.start c s
    → (w : ℕ) → w ≡ without_bit x.child_bitmap b → (y : MultiBitNode) → y ≡ with_children x w g.start → (a : ℕ) → a ≡ at
    → (l₂ : List ℕ) → l₂ ≡ save_node l₁ a y → (g.pool, l₂, f₂) ≡ up_of p l f at x d key
unfolding up_of
upped p l f at x d key c ec b eb s es g f₂ eg here eh l₁ e₁ w ew y ey a ea l₂ e₂ =
    simp (← ec, ← eb, ← es, ← eg, ← eh, ← ew, ← e₁, ← (rw (ea, ey) at e₂))
