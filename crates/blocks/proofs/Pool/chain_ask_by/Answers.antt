-- `blocks::Pool::chain_ask_by` meets its contract: the asks on the list as found are those of the steps. Assumes nothing.
use mathlib.Core.Path.{◌≡◌, sym, ap, ◌∙◌}
use lib.ListN.{length}
use borrow.Author.Rules.{rules}
use Rattle.refusals.specs.Numbers.{ended}
use Rattle.blocks.specs.Growth.{grow_ask_of}
use Rattle.blocks.proofs.Shape.{in_shape}
use Rattle.blocks.proofs.Spare.{chain_go}
use Rattle.blocks.proofs.Pool.chain_ask_by.Goals as goal

pub returns : goal.returns
returns c =
    let top = c.args.top in
    let a = c.args in
    let grown = c.grow_ask_by-grown in
    let tiers : length a.self.free ≡ 7 = search rules in
    let shape = in_shape a.self top a.list.now c.requires.3 c.requires.4 tiers in
    let granted : 0 ≡ (grow_ask_of a.self top a.self.mark a.list.now a.old a.count).number = sym (ap ended c.in_ok-grown.was) ∙ grown.ensures.number in
    chain_go a.self top a.list.now a.old a.count a.k grown.result.pool _ shape granted grown.ensures.pool c.singles_by.ensures
