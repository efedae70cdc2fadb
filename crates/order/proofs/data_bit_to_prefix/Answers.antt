-- `order::data_bit_to_prefix` meets its contract: a pair of the tested table. Assumes nothing.
use Rattle.order.proofs.Tables.{bit_to_prefix, bit_offset}
use Rattle.order.proofs.data_bit_to_prefix.Goals as goal

pub returns : goal.returns
unfolding bit_to_prefix
returns c = bit_offset c.args.bit c.requires
