-- `State::look` meets its contract. Assumes nothing.
use mathlib.Core.Path.{sym}
use Rattle.map.proofs.Sighted.{seen_whole}
use Rattle.entry.proofs.Ready.{lookup_ready}
use Rattle.map.proofs.State.look.Goals as goal

pub answer-requires : goal.answer-requires
answer-requires g c =
    let a = c.args in
    let r = lookup_ready a.self.nodes a.self.cells a.self.rules _ _ a.len (sym c.in-Ok.ensures) in
    (seen_whole a.key a.len r.short c.walk.result (c.requires.sees r.short c.walk.result c.walk.ensures), r.issued_cells)

pub walk-requires : goal.walk-requires
walk-requires g c =
    let a = c.args in
    let r = lookup_ready a.self.nodes a.self.cells a.self.rules _ _ a.len (sym c.in-Ok.ensures) in
    c.requires.walks r.short r.issued_nodes
