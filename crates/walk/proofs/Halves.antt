-- The test of a node in two halves, the rules' and the children's, and where a step makes one needless. Assumes nothing.
use mathlib.Core.Path.{◌≡◌, refl, sym, ◌∙◌}
use mathlib.Core.Bool.{Bool, true, false, ◌&&◌}
use Prim.Native.Nat.{ℕ, ◌+◌, ◌<◌, ◌^◌}
use native.Mathlib.Omega.{arith}
use borrow.Author.Tests.{ne_eqb, leb-true}
use lib.Dec.{ltb, eqb}
use Rattle.bits.specs.Bits.{count}
use Rattle.tiers.specs.Tiers.{empty, child_spacings, spacing_of, tier_of}
use Rattle.tiers.proofs.Tiers.{spacing_pos}
use Rattle.places.specs.Places.{child_bit}
use Rattle.node.specs.declared.MultiBitNode.{MultiBitNode}
use Rattle.std.specs.Prelude.{Option, Some, Result, Ok}
use Rattle.refusals.specs.declared.Refusal.{Refusal}
use Rattle.walk.specs.Steps.{agree, sound_of, data_whole, children_whole, children_within, step_of}
use Rattle.walk.proofs.Kept.{set_some}
use Rattle.walk.proofs.Steps.{descent}

-- ---- both halves are the whole test
pub halves : (x : MultiBitNode) → sound_of x ≡ (data_whole x && children_whole x)
unfolding sound_of data_whole children_whole
halves x =
    go (agree (eqb x.data_bitmap 0) (eqb x.data_idx.0 empty)) (agree (eqb x.child_bitmap 0) (eqb x.children_idx.0 empty)) (ltb x.data_bitmap 0x8000_0000)
  where
    go : (a b l : Bool) → (a && b && l) ≡ (a && l && b)
    go true true true = refl
    go true true false = refl
    go true false true = refl
    go true false false = refl
    go false b l = refl

module _ (x : MultiBitNode) {s : Bool} (es : s ≡ data_whole x) where
  -- a node whose rules' half fails
  pub data_fails : s ≡ false → sound_of x ≡ false
  data_fails f = halves x ∙ simp (← es, f)

  module _ (t : s ≡ true) where
    -- one whose children's half fails
    pub children_fail : children_whole x ≡ false → sound_of x ≡ false
    children_fail f = halves x ∙ simp (← es, t, f)

    -- one that is whole
    pub both_hold : children_whole x ≡ true → sound_of x ≡ true
    both_hold f = halves x ∙ simp (← es, t, f)

-- ---- what a step says of the halves
module _ (lim key len d : ℕ) (x : MultiBitNode) where
  -- down: there is a child, and no block below the mark starts at the empty index
  children_hold : lim < 2 ^ 32 → (at : ℕ) → step_of lim key len d x ≡ Ok (Some at) → children_whole x ≡ true
  unfolding children_whole children_within
  children_hold h at e =
      let g = descent lim key len d x at e in
      let n : ℕ = count x.child_bitmap in
      let start : ℕ = x.children_idx.0 in
      let wide = spacing_pos child_spacings tt (tier_of child_spacings n) in
      let in_lim = leb-true (start + spacing_of child_spacings (tier_of child_spacings n)) lim g.within in
      simp (ne_eqb x.child_bitmap 0 (set_some x.child_bitmap (child_bit d key) g.child), ne_eqb start empty (λ z. omega arith))

  -- so a node whose rules' half holds is whole where the walk goes down from it
  pub down_whole : lim < 2 ^ 32 → {s : Bool} → s ≡ data_whole x → s ≡ true
      → {t : Result (Option ℕ) Refusal} → t ≡ step_of lim key len d x → (at : ℕ) → t ≡ Ok (Some at) → sound_of x ≡ true
  down_whole h es holds et at e = both_hold x es holds (children_hold h at (sym et ∙ e))

-- a claim that holds of a node that is whole, and of one that isn't
pub either_way : (x : MultiBitNode) {A : Type 0} → (sound_of x ≡ false → A) → (sound_of x ≡ true → A) → A
either_way x {A} broken whole = go (sound_of x) refl
  where
    go : (b : Bool) → sound_of x ≡ b → A
    go true f = whole f
    go false f = broken f
