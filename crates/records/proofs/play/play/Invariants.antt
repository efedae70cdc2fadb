-- `records::play::play`: the first records are answered, and lent slices keep their lengths. Assumes nothing.
use mathlib.Core.Path.{◌≡◌}
use lib.ListN.{length}
use Rattle.map.specs.Memory.{memory}
use Rattle.records.specs.Runs.{run, wholes_of}
use Rattle.records.proofs.play.play.Given as goal

abbrev pub invariant-loop-i : goal.invariant-loop-i
invariant-loop-i l =
    let m = l.initial in
    (run l.state (memory l.nodes l.cells l.node_free l.cell_free) l.out ≡ wholes_of l.i (run m.state (memory m.nodes m.cells m.node_free m.cell_free) m.out) l.input)
    × (length l.out ≡ length m.out)
