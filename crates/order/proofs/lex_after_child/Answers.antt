-- `order::lex_after_child` meets its contract: a pair of the tested table. Assumes nothing.
use Rattle.order.proofs.Tables.{lex_after_child, after_child}
use Rattle.order.proofs.lex_after_child.Goals as goal

pub returns : goal.returns
unfolding lex_after_child
returns c = after_child c.args.bit c.requires
