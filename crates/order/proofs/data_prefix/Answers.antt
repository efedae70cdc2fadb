-- `order::data_prefix` meets its contract, where the offset's four bits lie in the key and where they run past it. Assumes nothing.
use native.Mathlib.Omega.{arith}
use borrow.Author.Rules.{rules}
use Rattle.order.proofs.Keys.{data_length, data_in, data_past}
use Rattle.order.proofs.data_prefix.Goals as goal

pub overflow_add-result : goal.overflow_add-result
overflow_add-result c = let l = data_length c.args.depth c.wide.ensures c.data_bit_to_prefix-b.ensures in search rules

pub overflow_add-result-else-depth-le32 : goal.overflow_add-result-else-depth-le32
overflow_add-result-else-depth-le32 c = let l = data_length c.args.depth c.wide.ensures c.data_bit_to_prefix-b.ensures in search rules

pub returns-then-depth-le32 : goal.returns-then-depth-le32
returns-then-depth-le32 c = (
  omega (arith, data_in c.args.key c.args.depth c.mask_key-root.ensures c.wide.ensures c.data_bit_to_prefix-b.ensures (omega arith) (search rules)),
  data_length c.args.depth c.wide.ensures c.data_bit_to_prefix-b.ensures,
)

pub returns-else-depth-le32 : goal.returns-else-depth-le32
returns-else-depth-le32 c = (
  omega (arith, data_past c.args.key c.args.depth c.mask_key-root.ensures c.wide.ensures c.data_bit_to_prefix-b.ensures (omega arith) (search rules) (search rules)),
  data_length c.args.depth c.wide.ensures c.data_bit_to_prefix-b.ensures,
)
