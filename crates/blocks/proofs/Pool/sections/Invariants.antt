-- `blocks::Pool::sections` meets its contract: the sections that were passed hold their counts. Assumes nothing.
use mathlib.Core.Path.{◌≡◌}
use mathlib.Core.Bool.{true}
use Rattle.blocks.specs.Shape.{sections_of}
use Rattle.blocks.proofs.Pool.sections.Given as goal

abbrev pub invariant-loop-t : goal.invariant-loop-t
invariant-loop-t l = sections_of l.t l.top l.self.size l.self.free ≡ true
