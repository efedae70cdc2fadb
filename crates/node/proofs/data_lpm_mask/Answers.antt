-- `node::data_lpm_mask` meets its contract: the row's pattern at the query's level, cut to four. Assumes nothing.
use mathlib.Core.Logic.{inl, inr}
use native.Mathlib.Omega.{arith}
use Rattle.places.proofs.Windows.{window_lt}
use Rattle.node.proofs.Masks.{lpm_row}
use Rattle.node.proofs.data_lpm_mask.Goals as goal

pub path_bits-requires-else-v-lt4 : goal.path_bits-requires-else-v-lt4
path_bits-requires-else-v-lt4 c = let v = c.args.v in omega (arith, window_lt v.key v.depth 4, c.rest_place-place.ensures)

pub path_bits-requires : goal.path_bits-requires
path_bits-requires c = let v = c.args.v in (omega arith, omega (arith, window_lt v.key v.depth 4, c.rest_place-place.ensures))

pub returns-then-v-lt4 : goal.returns-then-v-lt4
returns-then-v-lt4 c =
    let v = c.args.v in
    lpm_row v.depth v.key v.len _ _ _ v.in_tree c.rest_place-place.ensures c.path_bits.ensures (omega arith) (omega (arith, v.in_tree.from)) (inl (omega (arith, v.in_tree.from)))

pub returns-else-v-lt4 : goal.returns-else-v-lt4
returns-else-v-lt4 c =
    let v = c.args.v in
    lpm_row v.depth v.key v.len _ _ _ v.in_tree c.rest_place-place.ensures c.path_bits-else-v-lt4.ensures (omega arith) (omega (arith, v.in_tree.from)) (inr (omega arith))
