-- `walk::lookups::ExactLookup::tell` meets its contract. Assumes nothing.
use native.Mathlib.Omega.{arith}
use Rattle.walk.proofs.LookupWays.{exact_short, exact_missing, exact_rule}
use Rattle.walk.proofs.lookups.ExactLookup.tell.Goals as goal
use Rattle.walk.proofs.lookups.ExactLookup.tell.Goals.{then-v-lt-STRIDE+else-has_data_bit, else-v-lt-STRIDE}

pub returns-then-has_data_bit : goal.returns-then-has_data_bit
returns-then-has_data_bit c =
    let v = c.args.v in
    let b = c.data_bit-bit in
    let t = c.has_data_bit in
    exact_rule c.args.x v.key v.len v.depth (omega (arith, c.if-v-lt-STRIDE.true, v.in_tree.from)) b.result b.ensures t.result t.ensures c.if-has_data_bit.true v.in_tree.node v.in_tree.from

pub returns : goal.returns
returns c =
    let v = c.args.v in
    elim c.if-v-lt-STRIDE.branch [
      | then-v-lt-STRIDE+else-has_data_bit w ↦
          let b = w.data_bit-bit in
          let t = w.has_data_bit in
          exact_missing c.args.x v.key v.len v.depth (omega (arith, w.if-v-lt-STRIDE.true, v.in_tree.from)) b.result b.ensures t.result t.ensures w.if-has_data_bit.false
      | else-v-lt-STRIDE w ↦ exact_short c.args.x v.key v.len v.depth (omega (arith, w.if-v-lt-STRIDE.false, v.in_tree.from))
    ]
