-- The cases of a step, and what each says. Assumes nothing.
use mathlib.Core.Path.{◌≡◌, refl, sym, ◌∙◌}
use mathlib.Core.Bool.{Bool, true, false}
use Prim.Native.Nat.{ℕ, ◌+◌, ◌≤◌, ◌<◌}
use native.Mathlib.Omega.{arith}
use borrow.Author.Tests.{le-leb, lt-leb, leb-true, leb-false}
use lib.Dec.{leb}
use Rattle.bits.specs.Bits.{has, count, set_below}
use Rattle.bits.proofs.OneBit.{has_one}
use Rattle.tiers.specs.Tiers.{stride}
use Rattle.places.specs.Places.{child_bit}
use Rattle.places.proofs.Children.{child_lt}
use Rattle.node.specs.declared.MultiBitNode.{MultiBitNode}
use Rattle.std.specs.Prelude.{cond, Option, Some, None, Result, Ok, Err}
use Rattle.refusals.specs.declared.Refusal.{Refusal}
use Rattle.refusals.specs.declared.Refusal.TheVariants.{Broken}
use Rattle.walk.specs.Steps.{children_within, step_of}
use Rattle.walk.proofs.Within.{child_below_lem}

-- what a step down says
pub record Descent (lim key len d : ℕ) (x : MultiBitNode) (at : ℕ) : Type 0 where
  pub deeper : d + stride ≤ len
  pub child : has x.child_bitmap (child_bit d key) ≡ true
  pub within : children_within lim (count x.child_bitmap) x.children_idx.0 ≡ true
  pub place : at ≡ x.children_idx.0 + set_below x.child_bitmap (child_bit d key)
  pub below : at < lim

module _ (lim key len d : ℕ) (x : MultiBitNode) where
  -- the path ends where the query's length lives in the node
  pub step_deep : len < d + stride → step_of lim key len d x ≡ Ok None
  unfolding step_of
  step_deep h = simp (lt-leb (d + stride) len h)

  module _ (h : d + stride ≤ len) where
    -- it ends where the child doesn't exist
    pub step_none : has x.child_bitmap (child_bit d key) ≡ false → step_of lim key len d x ≡ Ok None
    unfolding step_of
    step_none e = simp (le-leb (d + stride) len h, e)

    module _ (e : has x.child_bitmap (child_bit d key) ≡ true) where
      -- a child block that isn't wholly below the mark is number 5
      pub step_broken : children_within lim (count x.child_bitmap) x.children_idx.0 ≡ false → step_of lim key len d x ≡ Err Broken
      unfolding step_of
      step_broken w = simp (le-leb (d + stride) len h, e, w)

      -- otherwise the walk goes down
      pub step_down : children_within lim (count x.child_bitmap) x.children_idx.0 ≡ true
          → step_of lim key len d x ≡ Ok (Some (x.children_idx.0 + set_below x.child_bitmap (child_bit d key)))
      unfolding step_of
      step_down w = simp (le-leb (d + stride) len h, e, w)

  -- a step down is taken only there, to a position below the mark
  pub descent : (at : ℕ) → step_of lim key len d x ≡ Ok (Some at) → Descent lim key len d x at
  descent at e =
      go (leb (d + stride) len) refl (has x.child_bitmap (child_bit d key)) refl (children_within lim (count x.child_bitmap) x.children_idx.0) refl
    where
      go : (a : Bool) → leb (d + stride) len ≡ a → (b : Bool) → has x.child_bitmap (child_bit d key) ≡ b
          → (w : Bool) → children_within lim (count x.child_bitmap) x.children_idx.0 ≡ w → Descent lim key len d x at
      go false p b q w r = let f = step_deep (leb-false (d + stride) len p) in let z : ◌≡◌ {A = ℕ} 0 1 = cc in absurd (omega arith)
      go true p false q w r = let f = step_none (leb-true (d + stride) len p) q in let z : ◌≡◌ {A = ℕ} 0 1 = cc in absurd (omega arith)
      go true p true q false r = let f = step_broken (leb-true (d + stride) len p) q r in let z : ◌≡◌ {A = ℕ} 0 1 = cc in absurd (omega arith)
      go true p true q true r =
          let f = step_down (leb-true (d + stride) len p) q r in
          let g : at ≡ x.children_idx.0 + set_below x.child_bitmap (child_bit d key) = cc in
          let k = child_below_lem lim x.child_bitmap x.children_idx.0 (child_bit d key) r (child_lt d key) (has_one x.child_bitmap (child_bit d key) q) in
          record { deeper = leb-true (d + stride) len p; child = q; within = r; place = g; below = rw g k }

  -- broken memory is all that refuses a step
  pub broken_alone : (r : Refusal) → step_of lim key len d x ≡ Err r → r ≡ Broken
  unfolding step_of
  broken_alone r e =
      go (leb (d + stride) len) (has x.child_bitmap (child_bit d key)) (children_within lim (count x.child_bitmap) x.children_idx.0) e
    where
      ok : {o : Option ℕ} → ◌≡◌ {A = Result (Option ℕ) Refusal} (Ok o) (Err r) → ⊥
      ok q = let z : ◌≡◌ {A = ℕ} 0 1 = cc in omega arith

      go : (a b w : Bool) → cond a (cond b (cond w (Ok (Some (x.children_idx.0 + set_below x.child_bitmap (child_bit d key)))) (Err Broken)) (Ok None)) (Ok None) ≡ Err r → r ≡ Broken
      go true true false q = cc
      go true true true q = absurd (ok q)
      go true false w q = absurd (ok q)
      go false b w q = absurd (ok q)

  -- the same from the answers of the tests: b is the child's bit, t says whether it is set, w whether the block is within
  module _ (h : d + stride ≤ len) (b : ℕ) (eb : b ≡ child_bit d key) (t : Bool) (et : t ≡ has x.child_bitmap b) where
    -- no child
    pub next_none : t ≡ false → Ok None ≡ step_of lim key len d x
    next_none f = sym (step_none h (rw (← eb) (sym et ∙ f)))

    module _ (e : t ≡ true) (w : Bool) (ew : w ≡ children_within lim (count x.child_bitmap) x.children_idx.0) where
      -- a block past the mark
      pub next_broken : w ≡ false → Err Broken ≡ step_of lim key len d x
      next_broken f = sym (step_broken h (rw (← eb) (sym et ∙ e)) (sym ew ∙ f))

      module _ (f : w ≡ true) (s : ℕ) (es : s ≡ set_below x.child_bitmap b) where
        -- the child's position is below the mark
        pub next_below : x.children_idx.0 + s < lim
        next_below =
            rw (es, eb) (child_below_lem lim x.child_bitmap x.children_idx.0 (child_bit d key) (sym ew ∙ f) (child_lt d key) (has_one x.child_bitmap (child_bit d key) (rw (← eb) (sym et ∙ e))))

        -- down to it
        pub next_down : Ok (Some (x.children_idx.0 + s)) ≡ step_of lim key len d x
        next_down = rw (es, eb) (sym (step_down h (rw (← eb) (sym et ∙ e)) (sym ew ∙ f)))
