-- The best match that a walk over an image has met so far, and what one node more makes of it. Assumes nothing.
use mathlib.Core.Path.{◌≡◌, sym, ap, ◌∙◌}
use mathlib.Core.Logic.{⊎_elim}
use mathlib.Core.Bool.{Bool, true, false, false≢true}
use mathlib.Core.Option.{some}
use Prim.Native.Nat.{ℕ, suc, ◌≤◌, ◌<◌}
use native.Mathlib.Omega.{arith}
use Rattle.bits.specs.Bits.{has}
use Rattle.places.specs.Places.{data_bit}
use Rattle.node.specs.declared.MultiBitNode.{MultiBitNode}
use Rattle.std.specs.Prelude as std
use Rattle.std.specs.Prelude.{Some, None}
use Rattle.node.proofs.Matches.{Held, Best, IsLongest}
use Rattle.store.specs.declared.Cell.{Cell}
use Rattle.walk.specs.declared.Rule.{Rule}
use Rattle.walk.specs.Lookups.{rule_in, better}
use Rattle.rules.specs.Rules.{Rules, value_at, longest, IsPrefix}
use Rattle.rules.specs.Nodes.{depth}
use Rattle.rules.proofs.Always.{some_value}
use Rattle.image.specs.Numbers.{path_no}
use Rattle.image.specs.Tree.{Tree}
use Rattle.image.specs.Image.{node_of}
use Rattle.image.proofs.Answers.{Quiet, quiet_join, longest_quiet, longest_last}
use Rattle.image.proofs.Sights.{seen, rule_for, Sighted, rule_sight, Reach, held_level, held_live, held_none}

module _ {E D : ℕ → Bool} (es vs : ℕ → ℕ) {val : ℕ → Cell} {rs : Rules Cell} (tree : Tree rs E D val) (key len : ℕ) (pre : IsPrefix key len) where
  -- the words of the path's node at level j
  abbrev at : ℕ → MultiBitNode
  at j = node_of E D es vs (path_no key j)

  -- the longest of the lengths below m, before the count is known: none of them is live, or it is the last that is
  pub data Met (m : ℕ) (s : std.Option Rule) : Type 0 where
    unmet : Quiet rs key 0 m → s ≡ None → Met m s
    met : (l : ℕ) (v : Cell) → l < m → value_at rs key l ≡ some v → Quiet rs key (suc l) m → s ≡ Some (rule_for E D es vs key l) → Met m s

  -- the longest of all lengths is what longest answers
  pub met_all : (s : std.Option Rule) (n : ℕ) → Met (suc len) s → Sighted E D es vs key (longest rs key len) n (seen s n)
  met_all s n (unmet q e) = rw (longest_quiet rs key len q, e)
  met_all s n (met l v h x q e) = rw (longest_last rs key len l v (omega arith) x q, e)

  -- a rule whose data bit is set in the path's node at level j, with its value and its sight
  pub record Shown (j l b : ℕ) : Type 0 where
    pub value : Cell
    pub alive : value_at rs key l ≡ some value
    pub told : rule_in (at j) (depth j) b ≡ rule_for E D es vs key l

  -- a length that the node holds, with its bit set, is such a rule
  pub shown : (j l b : ℕ) → Held (depth j) len l → b ≡ data_bit key l → has (at j).data_bitmap b ≡ true → Shown j l b
  shown j l b h e t =
      let live = some_value (value_at rs key l) (sym (held_live es vs tree key len pre j l h) ∙ ap (has (at j).data_bitmap) (sym e) ∙ t) in
      record {
        value = live.0;
        alive = live.1;
        told = ap (rule_in (at j) (depth j)) e ∙ rule_sight E D es vs key j l (held_level es vs tree key len pre j l h);
      }

  module _ (j m : ℕ) (r : Reach rs key len pre j m) where
    -- where no bit of the node can be set for lengths from a on, those that the walk has read aren't live
    quiet_from : (a : ℕ) → depth j ≤ a → ((l : ℕ) → a ≤ l → Held (depth j) len l → has (at j).data_bitmap (data_bit key l) ≡ true → ⊥) → Quiet rs key a m
    quiet_from a d f l h k = ⊎_elim (λ w. held_none es vs tree key len pre j l w (f l h w)) (λ e. e) (r.near l (omega arith) k)

    -- a node with no match leaves the lengths that it holds without a rule
    pub quiet_node : ((l : ℕ) → Held (depth j) len l → has (at j).data_bitmap (data_bit key l) ≡ false) → Quiet rs key (depth j) m
    quiet_node f = quiet_from (depth j) (omega arith) (λ l h k t. false≢true (sym (f l k) ∙ t))

    -- with the node's own match, the longest met before becomes the longest met by now
    pub met_node : depth j ≤ len → (best : std.Option Rule) (f : std.Option ℕ) → IsLongest (at j).data_bitmap (depth j) key len f → Met (depth j) best
        → Met m (better f (at j) (depth j) best)
    unfolding better
    met_node d best None w (unmet q e) = unmet (quiet_join rs key 0 (depth j) m q (quiet_node w)) e
    met_node d best None w (met l v h x q e) =
        met l v (omega (arith, r.held (depth j) (record { from = omega arith; to = omega arith; within = d }))) x
        (quiet_join rs key (suc l) (depth j) m q (quiet_node w)) e
    met_node d best (Some b) w q =
        let s = shown j w.size b w.held w.there w.set in
        met w.size s.value (r.held w.size w.held) s.alive
        (quiet_from (suc w.size) (omega (arith, w.held.from)) (λ l h k t. omega (arith, w.best l k t))) (ap (λ (r : Rule). Some r) s.told)

  -- the lengths below the shortest match of a node aren't live, where none above the node is
  pub quiet_before : (j b : ℕ) (w : Best (λ l s. s ≤ l) (Held (depth j) len) (at j).data_bitmap key b) → Quiet rs key 0 (depth j) → Quiet rs key 0 w.size
  quiet_before j b w q =
      quiet_join rs key 0 (depth j) w.size q
      (λ l h k.
      let v : Held (depth j) len l = record { from = h; to = omega (arith, w.held.to); within = omega (arith, w.held.within) } in
      held_none es vs tree key len pre j l v (λ t. omega (arith, w.best l v t)))
