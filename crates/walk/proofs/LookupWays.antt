-- Ways through what the lookups see in one node, over plain variables. Assumes nothing.
use mathlib.Core.Path.{◌≡◌, refl, sym, ap, ◌∙◌}
use mathlib.Core.Bool.{Bool, true, false}
use Prim.Native.Nat.{ℕ, ◌+◌, ◌%◌, ◌≤◌, ◌<◌}
use native.Mathlib.Omega.{arith}
use borrow.Author.Tests.{lt-ltb, le-ltb}
use Rattle.std.specs.Prelude.{Option, Some, None}
use Rattle.bits.specs.Bits.{has}
use Rattle.tiers.specs.Tiers.{stride}
use Rattle.places.specs.Places.{data_bit, depth_of, length_at}
use Rattle.places.proofs.Prefixes.{data_length}
use Rattle.node.specs.declared.MultiBitNode.{MultiBitNode}
use Rattle.walk.specs.declared.Rule.{Rule}
use Rattle.walk.specs.Lookups.{rule_in, better, exact_in}
use Rattle.node.specs.Matches.{longest_in, shortest_in}
use Rattle.walk.proofs.Kept.{longest_zero, shortest_zero}

-- a match in a node is the better rule, and without one the best so far stays
module _ (x : MultiBitNode) (d : ℕ) (best : Option Rule) where
  pub better_some : (m : Option ℕ) (b : ℕ) → m ≡ Some b → Some (rule_in x d b) ≡ better m x d best
  unfolding better
  better_some m b e = rw e refl

  pub better_none : (m : Option ℕ) → m ≡ None → best ≡ better m x d best
  unfolding better
  better_none m e = rw e refl

-- exact in the node where the path ends: b is the rule's data bit, t says whether it is set
module _ (x : MultiBitNode) (key len d : ℕ) where
  -- the path ends above the rule's node
  pub exact_short : d + stride ≤ len → None ≡ exact_in x key len d
  unfolding exact_in
  exact_short h = simp (le-ltb len (d + stride) h)

  module _ (h : len < d + stride) (b : ℕ) (eb : b ≡ data_bit key len) (t : Bool) (et : t ≡ has x.data_bitmap b) where
    -- the rule isn't there
    pub exact_missing : t ≡ false → None ≡ exact_in x key len d
    unfolding exact_in
    exact_missing f = simp (lt-ltb len (d + stride) h, ← eb, ← et, f)

    -- it is
    pub exact_rule : t ≡ true → d % stride ≡ 0 → d ≤ len → Some (record { cells = x.data_idx; bitmap = x.data_bitmap; bit = b; len = len }) ≡ exact_in x key len d
    unfolding exact_in
    exact_rule f s k =
        let w : depth_of len ≡ d = omega arith in
        let e : length_at d (data_bit key len) ≡ len = ap (λ (y : ℕ). length_at y (data_bit key len)) (sym w) ∙ data_length key len in
        let g : length_at d b ≡ len = ap (length_at d) eb ∙ e in
        simp (lt-ltb len (d + stride) h, ← eb, ← et, f, g)

-- a node with no rules is passed by
module _ (x : MultiBitNode) (d key len : ℕ) (from : d ≤ len) (best : Option Rule) (z : x.data_bitmap ≡ 0) where
  pub longest_passed : best ≡ better (longest_in x.data_bitmap d key len) x d best
  unfolding better
  longest_passed = rw (z, longest_zero d key len from)

  pub shortest_passed : best ≡ better (shortest_in x.data_bitmap d key len) x d best
  unfolding better
  shortest_passed = rw (z, shortest_zero d key len from)
