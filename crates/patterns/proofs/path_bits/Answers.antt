-- `patterns::path_bits` meets its contract: the place of the path in the heap, and its halves. Assumes nothing.
use native.Mathlib.Omega.{arith}
use Rattle.patterns.proofs.PathBits.{heap_lt, way_word}
use Rattle.patterns.proofs.path_bits.Goals as goal

pub overflow_shl-result : goal.overflow_shl-result
overflow_shl-result c = omega (arith, heap_lt c.args.level c.args.place c.requires.1)

pub overflow_shl-result-2 : goal.overflow_shl-result-2
overflow_shl-result-2 c = omega (arith, heap_lt c.args.level c.args.place c.requires.1)

pub overflow_shl-result-3 : goal.overflow_shl-result-3
overflow_shl-result-3 c = omega (arith, heap_lt c.args.level c.args.place c.requires.1)

pub overflow_shl-result-4 : goal.overflow_shl-result-4
overflow_shl-result-4 c = omega (arith, heap_lt c.args.level c.args.place c.requires.1)

pub overflow_shl-result-5 : goal.overflow_shl-result-5
overflow_shl-result-5 c = omega (arith, heap_lt c.args.level c.args.place c.requires.1)

pub returns : goal.returns
returns c = way_word c.args.level c.args.place c.requires.0 c.requires.1
