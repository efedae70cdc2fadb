-- The small map of the readings: 8 nodes and 4 cells, a fresh start, then the first rules of a list of two. Assumes nothing.
use Rattle.std.specs.Prelude.{cond, ℕ, eqb, replicate}
use Rattle.store.specs.Words.{cell_as}
use Rattle.map.specs.declared.Answer.{Answer}
use Rattle.map.specs.declared.Edited.{Edited}
use Rattle.map.specs.declared.Values.{Values}
use Rattle.map.specs.Answers.{values_of}
use Rattle.map.specs.Memory.{Memory, memory}
use Rattle.map.specs.Fresh.{fresh_of}
use Rattle.map.specs.Inserts.{insert_of}
use Rattle.map.specs.Lookups.{longest_of}
use Rattle.readings.specs.declared.Reading.{Reading}
use Rattle.readings.specs.declared.Reading.TheVariants.{Said}

-- the words that are lent: 4 a node, 1 a cell, and the free lists' entries
abbrev pub lent : Memory
lent = memory (replicate 32 0) (replicate 4 0) (replicate 15 0) (replicate 7 0)

-- after a fresh start
abbrev pub started : Memory → Edited × Memory
started m = fresh_of m 8 4

-- with the batch's rule added, 0A000100/27 with value 7
abbrev pub with_batch : Edited × Memory → Edited × Memory
with_batch e = insert_of e.0.state e.1 0x0a00_0100 27 (cell_as 7)

-- with the held cell's rule added, 0A000113/32 with value 9
abbrev pub with_cell : Edited × Memory → Edited × Memory
with_cell e = insert_of e.0.state e.1 0x0a00_0113 32 (cell_as 9)

-- the longest match as an edit leaves state and memory
abbrev pub longest_in : Edited × Memory → ℕ → ℕ → Answer
longest_in e key len = longest_of e.0.state e.1.nodes e.1.cells key len

-- the longest match after the first `rules` rules, both where more are asked
unfoldable pub longest_after : Memory → ℕ → ℕ → ℕ → Answer
longest_after m rules key len =
    cond (eqb rules 0) (longest_in (started m) key len)
    (cond (eqb rules 1) (longest_in (with_batch (started m)) key len) (longest_in (with_cell (with_batch (started m))) key len))

-- an answer by its number and values
abbrev pub said : Values → Reading
said v = Said v.number v.len v.nodes v.key v.value

unfoldable pub said_of : Answer → Reading
said_of a = said (values_of a)
