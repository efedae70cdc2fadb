-- A fresh start: all lent memory written, node 0 issued (document 01, "Memory that the caller lends"). Assumes nothing.
use Rattle.std.specs.Prelude.{ℕ, cond, length}
use Rattle.entry.specs.First.{edit_shaped}
use Rattle.entry.specs.Fresh.{empty_nodes, zeros, pool_as}
use Rattle.map.specs.declared.Answer.TheVariants.{Started, WrongSlice}
use Rattle.map.specs.declared.Edited.{Edited}
use Rattle.map.specs.Memory.{Memory, memory, edited, state_as}

-- n nodes and d cells; refused, an all-zero state, which every later call meets with 3
unfoldable pub fresh_of : Memory → ℕ → ℕ → Edited × Memory
fresh_of m n d =
    cond (edit_shaped n d (length m.nodes) (length m.cells) (length m.node_free) (length m.cell_free))
    (edited Started (state_as (pool_as n 1) (pool_as d 0) 0), memory (empty_nodes n m.nodes) (zeros m.cells) (zeros m.node_free) (zeros m.cell_free))
    (edited WrongSlice (state_as (pool_as 0 0) (pool_as 0 0) 0), m)
