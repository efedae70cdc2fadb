-- `walk::next_step` meets its contract: each test that fails gives its case. Assumes nothing.
use mathlib.Core.Path.{sym}
use Prim.Native.Nat.{◌+◌, ◌≤◌}
use native.Mathlib.Omega.{arith}
use Rattle.tiers.specs.Tiers.{stride}
use Rattle.walk.proofs.Steps.{step_deep, next_none, next_broken, next_below, next_down}
use Rattle.walk.proofs.next_step.Goals as goal

pub returns-then-v-lt-STRIDE : goal.returns-then-v-lt-STRIDE
returns-then-v-lt-STRIDE c =
    let v = c.args.v in
    sym (step_deep c.args.lim v.key v.len v.depth c.args.x (omega (arith, c.if-v-lt-STRIDE.true, v.in_tree.from)))

pub returns-then-not-has_child_bit : goal.returns-then-not-has_child_bit
returns-then-not-has_child_bit c =
    let v = c.args.v in
    let h : v.depth + stride ≤ v.len = omega (arith, c.if-v-lt-STRIDE.false, v.in_tree.from) in
    let b = c.rest_child-bit in
    let t = c.has_child_bit in
    next_none c.args.lim v.key v.len v.depth c.args.x h b.result b.ensures t.result t.ensures c.if-not-has_child_bit.true

pub returns-then-not-children_within : goal.returns-then-not-children_within
returns-then-not-children_within c =
    let v = c.args.v in
    let h : v.depth + stride ≤ v.len = omega (arith, c.if-v-lt-STRIDE.false, v.in_tree.from) in
    let b = c.rest_child-bit in
    let t = c.has_child_bit in
    let w = c.children_within in
    next_broken c.args.lim v.key v.len v.depth c.args.x h b.result b.ensures t.result t.ensures
    c.if-not-has_child_bit.false w.result w.ensures c.if-not-children_within.true

pub overflow_add-result : goal.overflow_add-result
overflow_add-result c =
    let v = c.args.v in
    let h : v.depth + stride ≤ v.len = omega (arith, c.if-v-lt-STRIDE.false, v.in_tree.from) in
    let b = c.rest_child-bit in
    let t = c.has_child_bit in
    let w = c.children_within in
    let s = c.child_slot in
    let below = next_below c.args.lim v.key v.len v.depth c.args.x h b.result b.ensures t.result t.ensures
    c.if-not-has_child_bit.false w.result w.ensures c.if-not-children_within.false s.result s.ensures in
    omega (arith, below, c.ranges.lim.fits)

pub returns : goal.returns
returns c =
    let v = c.args.v in
    let h : v.depth + stride ≤ v.len = omega (arith, c.if-v-lt-STRIDE.false, v.in_tree.from) in
    let b = c.rest_child-bit in
    let t = c.has_child_bit in
    let w = c.children_within in
    let s = c.child_slot in
    next_down c.args.lim v.key v.len v.depth c.args.x h b.result b.ensures t.result t.ensures
    c.if-not-has_child_bit.false w.result w.ensures c.if-not-children_within.false s.result s.ensures
