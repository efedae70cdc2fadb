-- `node::child_cover_mask` meets its contract: the row's pattern at the query's level, or nothing past the node. Assumes nothing.
use mathlib.Core.Path.{sym}
use native.Mathlib.Omega.{arith}
use Rattle.places.proofs.Windows.{window_lt}
use Rattle.node.proofs.Masks.{child_row, child_past}
use Rattle.node.proofs.child_cover_mask.Goals as goal

pub child_cover_pattern-requires : goal.child_cover_pattern-requires
child_cover_pattern-requires c =
    let e = c.in-Some.ensures in
    (omega (arith, e.0, e.2), omega (arith, e.1, window_lt c.args.v.key c.args.v.depth 4))

pub returns-in-Some : goal.returns-in-Some
returns-in-Some c =
    let e = c.in-Some.ensures in
    child_row c.args.v.depth c.args.v.key c.args.v.len _ _ _ c.args.v.in_tree e.0 e.1 c.child_cover_pattern.ensures e.2

pub returns-in-None : goal.returns-in-None
returns-in-None c = sym (child_past c.args.v.depth c.args.v.key c.args.v.len c.in-None.ensures)
