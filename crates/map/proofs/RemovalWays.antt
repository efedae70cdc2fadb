-- A way through a removal, over plain variables: it gives what the definition gives there. Assumes nothing.
use mathlib.Core.Path.{◌≡◌}
use mathlib.Core.Bool.{Bool}
use mathlib.Core.List.{List}
use Prim.Native.Nat.{ℕ}
use borrow.Author.Tests.{eq-eqb, ne_eqb}
use Rattle.node.specs.declared.MultiBitNode.{MultiBitNode}
use Rattle.walk.specs.declared.Trail.{Trail}
use Rattle.edits.specs.Removing.{drop_ask_of, last_rule, prune_ask_of}
use Rattle.map.specs.declared.State.{State}
use Rattle.map.specs.declared.Edited.{Edited}
use Rattle.map.specs.Memory.{memory, edited, refusal}
use Rattle.map.specs.Removals.{taken_of}

module _ (s : State) (l cells nf cf : List ℕ) (key len : ℕ) (t : Trail) (i : ℕ) (x : MultiBitNode) where
  module _ (r : s.rules ≡ 0 → ⊥) (a : ℕ) (ea : a ≡ drop_ask_of s.cells cf x) where
    module _ (h : a ≡ 0) (bare : Bool) (eb : bare ≡ last_rule x) (u : ℕ) (eu : u ≡ prune_ask_of i s.nodes s.nodes.mark nf t.nodes bare) where
      -- the way up refuses
      pub taken_stuck : (u ≡ 0 → ⊥) → (e : Edited) → e ≡ edited (refusal u) s → (e, memory l cells nf cf) ≡ taken_of s (memory l cells nf cf) key len t i x
      unfolding taken_of
      taken_stuck k e q = simp (ne_eqb s.rules 0 r, ← ea, eq-eqb a 0 h, ← eb, ← eu, ne_eqb u 0 k, q)
