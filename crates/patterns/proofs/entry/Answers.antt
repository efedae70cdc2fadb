-- `patterns::entry` meets its contract, from the test of the whole table. Assumes nothing.
use Rattle.patterns.proofs.Entries.{patterns, entry_is}
use borrow.Author.Rules.{rules}
use Rattle.patterns.proofs.entry.Goals as goal

pub returns : goal.returns
unfolding patterns
returns c = entry_is c.args.k (search rules)
