-- `order::lex_after_data` meets its contract: a pair of the tested table. Assumes nothing.
use Rattle.order.proofs.Tables.{lex_after_data, from_data}
use Rattle.order.proofs.lex_after_data.Goals as goal

pub returns : goal.returns
unfolding lex_after_data
returns c = from_data c.args.bit c.requires
