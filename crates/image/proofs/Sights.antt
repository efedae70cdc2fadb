-- What a lookup sees at one node of an image: the key's live rules of the lengths that live there. Assumes nothing.
use mathlib.Core.Path.{◌≡◌, refl, sym, ap, ◌∙◌, subst}
use mathlib.Core.Logic.{◌⊎◌, inl, inr}
use mathlib.Core.Bool.{Bool, true}
use mathlib.Core.Option.{Option, none, some}
use Prim.Native.Nat.{ℕ, suc, ◌+◌, ◌/◌, ◌≤◌, ◌<◌}
use native.Mathlib.Decide.{dec_lt}
use native.Mathlib.Omega.{arith}
use borrow.Author.Tests.{ltb-true}
use lib.Dec.{ltb}
use Rattle.bits.specs.Bits.{has}
use Rattle.prefix.proofs.Covering.{fails}
use Rattle.tiers.specs.Tiers.{stride}
use Rattle.places.specs.Places.{data_bit}
use Rattle.places.proofs.Prefixes.{data_length}
use Rattle.node.proofs.Matches.{Held}
use Rattle.store.specs.declared.Cell.{Cell}
use Rattle.std.specs.Prelude as std
use Rattle.std.specs.Prelude.{Some, None, Result, Ok}
use Rattle.refusals.specs.declared.Refusal.{Refusal}
use Rattle.walk.specs.declared.Rule.{Rule}
use Rattle.walk.specs.declared.Sight.{Sight}
use Rattle.walk.specs.Lookups.{rule_in}
use Rattle.rules.specs.Rules.{Rules, value_at, is_live, Answer, nothing, found, IsPrefix}
use Rattle.rules.specs.Nodes.{depth, node_count}
use Rattle.rules.proofs.NodeSet.{live_node}
use Rattle.rules.proofs.Paths.{path_node, count_path}
use Rattle.image.specs.Numbers.{path_no}
use Rattle.image.specs.Tree.{Tree}
use Rattle.image.specs.Image.{node_of}
use Rattle.image.proofs.Answers.{none_of}
use Rattle.image.proofs.Cells.{node_for, data_live}

-- a rule or none, seen with n nodes visited
abbrev pub seen : std.Option Rule → ℕ → Result Sight Refusal
seen rule n = Ok (record { rule = rule; visits = n })

-- the key's rule of length l
abbrev pub rule_for : (E D : ℕ → Bool) (es vs : ℕ → ℕ) → ℕ → ℕ → Rule
rule_for E D es vs key l =
    record { cells = (node_for E D es vs key l).data_idx; bitmap = (node_for E D es vs key l).data_bitmap; bit = data_bit key l; len = l }

-- a lookup of the key sees its answer: with n nodes visited, no rule, or the rule's cells, bitmap, data bit and length
abbrev pub Sighted : (E D : ℕ → Bool) (es vs : ℕ → ℕ) → ℕ → Answer Cell → ℕ → Result Sight Refusal → Type 0
Sighted E D es vs key nothing n sight = sight ≡ seen None n
Sighted E D es vs key (found k l v) n sight = sight ≡ seen (Some (rule_for E D es vs key l)) n

-- the rule of a length that lives at level j, told from the node of the key's path there
pub rule_sight : (E D : ℕ → Bool) (es vs : ℕ → ℕ) (key j l : ℕ) → l / stride ≡ j
    → rule_in (node_of E D es vs (path_no key j)) (depth j) (data_bit key l) ≡ rule_for E D es vs key l
rule_sight E D es vs key j l e =
    let x = node_for E D es vs key l in
    subst (λ (i : ℕ). rule_in (node_of E D es vs (path_no key i)) (depth i) (data_bit key l) ≡ rule_for E D es vs key l) e
    (ap (λ (m : ℕ). record { cells = x.data_idx; bitmap = x.data_bitmap; bit = data_bit key l; len = m }) (data_length key l))

-- ---- the lengths that a walk has read

module _ {Value : Type 0} (rs : Rules Value) (key len : ℕ) (pre : IsPrefix key len) where
  -- below the counted nodes no rule of the key is live
  pub none_below : (l : ℕ) → depth (node_count rs key len) ≤ l → l ≤ len → value_at rs key l ≡ none
  none_below l h k = go (value_at rs key l) refl
    where
      go : (o : Option Value) → value_at rs key l ≡ o → o ≡ none
      go none e = refl
      go (some v) e =
          let t : ltb (l / stride) (node_count rs key len) ≡ true = sym (path_node rs key len pre.short (l / stride) (omega arith)) ∙ live_node rs key l v e in
          absurd (omega (arith, ltb-true (l / stride) (node_count rs key len) t))

  -- with the node of level j a walk has read the lengths below m: those from its depth on live there, or aren't live
  pub record Reach (j m : ℕ) : Type 0 where
    pub held : (l : ℕ) → Held (depth j) len l → l < m
    pub near : (l : ℕ) → depth j ≤ l → l < m → Held (depth j) len l ⊎ (value_at rs key l ≡ none)

  -- a level that the walk goes on from holds the lengths up to the next
  pub reach_down : (j : ℕ) → suc j < node_count rs key len → Reach j (depth (suc j))
  reach_down j h = record {
    held = λ l w. omega (arith, w.to);
    near = λ l k w. inl (record { from = k; to = omega arith; within = omega (arith, count_path rs key len pre.short) });
  }

  -- and with the last one all lengths of the query are read
  pub reach_end : (j : ℕ) → suc j ≡ node_count rs key len → Reach j (suc len)
  reach_end j e = record { held = λ l w. omega (arith, w.within); near = λ l k w. go l k w (dec_lt l (depth j + stride)) }
    where
      go : (l : ℕ) → depth j ≤ l → l < suc len → Dec (l < depth j + stride) → Held (depth j) len l ⊎ (value_at rs key l ≡ none)
      go l k w (yes h) = inl (record { from = k; to = h; within = omega arith })
      go l k w (no h) = inr (none_below l (omega arith) (omega arith))

-- ---- the data bits of a node on the path

module _ {E D : ℕ → Bool} (es vs : ℕ → ℕ) {val : ℕ → Cell} {rs : Rules Cell} (tree : Tree rs E D val) (key len : ℕ) (pre : IsPrefix key len) (j l : ℕ) (held : Held (depth j) len l) where
  -- a length that a node holds lives at its level
  pub held_level : l / stride ≡ j
  held_level = omega (arith, held.from, held.to)

  -- its data bit is set exactly where its rule is live
  pub held_live : has (node_of E D es vs (path_no key j)).data_bitmap (data_bit key l) ≡ is_live rs key l
  held_live =
      subst (λ (i : ℕ). has (node_of E D es vs (path_no key i)).data_bitmap (data_bit key l) ≡ is_live rs key l) held_level
      (data_live es vs tree key l (record { bits = pre.bits; short = omega (arith, pre.short, held.within) }))

  -- so a bit that can't be set has no rule
  pub held_none : (has (node_of E D es vs (path_no key j)).data_bitmap (data_bit key l) ≡ true → ⊥) → value_at rs key l ≡ none
  held_none f = none_of (value_at rs key l) (sym held_live ∙ fails (has (node_of E D es vs (path_no key j)).data_bitmap (data_bit key l)) f)
