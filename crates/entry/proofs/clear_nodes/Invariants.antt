-- `entry::clear_nodes` meets its contract: a turn writes the next node. Assumes nothing.
use mathlib.Core.Path.{◌≡◌}
use Rattle.entry.specs.Fresh.{empty_nodes}
use Rattle.entry.proofs.clear_nodes.Given as goal

abbrev pub invariant-loop-i : goal.invariant-loop-i
invariant-loop-i l = l.nodes ≡ empty_nodes l.i l.initial.nodes
