-- `walk::lookups::ShortestLookup::meet` meets its contract: an empty node holds nothing. Assumes nothing.
use mathlib.Core.Path.{sym, ap, ◌∙◌}
use Rattle.std.specs.Prelude.{Some}
use Rattle.walk.specs.declared.Rule.{Rule}
use Rattle.walk.proofs.Kept.{shortest_kept}
use Rattle.walk.proofs.LookupWays.{better_some, better_none, shortest_passed}
use Rattle.walk.proofs.lookups.ShortestLookup.meet.Goals as goal

pub returns-then-x-eq0 : goal.returns-then-x-eq0
returns-then-x-eq0 c = let v = c.args.v in shortest_passed c.args.x v.depth v.key v.len v.in_tree.from _ c.if-x-eq0.true

pub best_in-requires : goal.best_in-requires
best_in-requires c =
    let v = c.args.v in
    (shortest_kept c.args.x.data_bitmap v.depth v.key v.len v.in_tree.node v.in_tree.from c.in-Some.bit (sym c.data_spm.ensures ∙ c.in-Some.is)).bit

pub returns-in-Some : goal.returns-in-Some
returns-in-Some c =
    ap (λ (r : Rule). Some r) c.best_in.ensures
    ∙ better_some c.args.x c.args.v.depth _ _ c.in-Some.bit (sym c.data_spm.ensures ∙ c.in-Some.is)

pub returns-in-None : goal.returns-in-None
returns-in-None c = better_none c.args.x c.args.v.depth _ _ (sym c.data_spm.ensures ∙ c.in-None.is)
