-- Where a live rule's value stands: its node's data bit is set, its block lies below the mark, and its cell holds it. Assumes nothing.
use mathlib.Core.Path.{◌≡◌, ap, ◌∙◌}
use mathlib.Core.Bool.{Bool, true}
use mathlib.Core.Option.{some}
use mathlib.Core.List.{List}
use Prim.Native.Nat.{ℕ, ◌+◌, ◌/◌, ◌<◌}
use native.Mathlib.Omega.{arith}
use Rattle.bits.specs.Bits.{has, set_below, count}
use Rattle.tiers.specs.Tiers.{stride}
use Rattle.places.specs.Places.{data_bit}
use Rattle.places.proofs.Prefixes.{data_lt}
use Rattle.node.specs.declared.MultiBitNode.{MultiBitNode}
use Rattle.blocks.specs.declared.Pool.{Pool}
use Rattle.store.specs.declared.Cell.{Cell}
use Rattle.store.specs.Words.{cell_at}
use Rattle.walk.specs.Steps.{data_within}
use Rattle.rules.specs.Rules.{Rules, value_at, is_live, is_some, IsPrefix, Proper}
use Rattle.pools.specs.Items.{place_of}
use Rattle.pools.specs.Sound.{Owner}
use Rattle.image.specs.Numbers.{path_no, rule_no}
use Rattle.image.specs.Tree.{Tree}
use Rattle.image.specs.Image.{Image, node_of}
use Rattle.image.proofs.Words.{bits_has}
use Rattle.image.proofs.Blocks.{items_some, index_place, index_within}

-- the words of the node where a prefix lives
abbrev pub node_for : (E D : ℕ → Bool) (es vs : ℕ → ℕ) → ℕ → ℕ → MultiBitNode
node_for E D es vs key l = node_of E D es vs (path_no key (l / stride))

module _ {E D : ℕ → Bool} (es vs : ℕ → ℕ) {val : ℕ → Cell} {rs : Rules Cell} (tree : Tree rs E D val) (key l : ℕ) (pre : IsPrefix key l) where
  -- the data bit of a prefix is set in its node exactly where the rule is live
  pub data_live : has (node_for E D es vs key l).data_bitmap (data_bit key l) ≡ is_live rs key l
  unfolding node_of
  data_live = bits_has D (path_no key (l / stride)) (data_bit key l) (omega (arith, data_lt key l)) ∙ tree.rule_is key l pre

module _ {p : Pool} {nodes nf : List ℕ} {q : Pool} {cells cf : List ℕ} {E D : ℕ → Bool} {es vs : ℕ → ℕ} {val : ℕ → Cell} {on od : ℕ → Owner}
    (image : Image p nodes nf q cells cf E D es vs val on od) {rs : Rules Cell} (proper : Proper rs) (tree : Tree rs E D val) (key l : ℕ) (v : Cell)
    (pre : IsPrefix key l) (e : value_at rs key l ≡ some v)
  where
    -- a live rule is one of its node's items
    rule_there : D (rule_no key l) ≡ true
    rule_there = tree.rule_is key l pre ∙ ap is_some e

    -- a live rule's block lies below the mark, its cell holds its value, and the cell is at the rule's place
    pub cell_there : (data_within q.mark (count (node_for E D es vs key l).data_bitmap) (node_for E D es vs key l).data_idx.0 ≡ true)
        × (cell_at cells ((node_for E D es vs key l).data_idx.0 + set_below (node_for E D es vs key l).data_bitmap (data_bit key l)) ≡ v)
        × ((node_for E D es vs key l).data_idx.0 + set_below (node_for E D es vs key l).data_bitmap (data_bit key l) ≡ place_of D vs (rule_no key l))
    unfolding node_of data_within
    cell_there =
        let b : data_bit key l < 32 = omega (arith, data_lt key l) in
        let at = index_place D vs (path_no key (l / stride)) (data_bit key l) b rule_there in (
          index_within image.values (path_no key (l / stride)) (items_some D (path_no key (l / stride)) (data_bit key l) b rule_there),
          ap (cell_at cells) at ∙ image.values.held (rule_no key l) rule_there ∙ tree.value_is key l v pre e,
          at,
        )
