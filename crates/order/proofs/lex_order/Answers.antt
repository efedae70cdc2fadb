-- `order::lex_order` meets its contract: the table was tested at every place. Assumes nothing.
use Rattle.order.proofs.Tables.{lex_order, stands}
use Rattle.order.proofs.lex_order.Goals as goal

pub returns : goal.returns
unfolding lex_order
returns c = stands c.args.place c.requires
