-- `State::walked` meets its contract: past the first tests an edit is ready to walk. Assumes nothing.
use mathlib.Core.Path.{sym}
use Rattle.map.specs.Memory.{memory}
use Rattle.map.proofs.Walking.{started, walked}
use Rattle.map.proofs.State.walked.Goals as goal

pub mask_key-requires : goal.mask_key-requires
mask_key-requires c =
    let a = c.args in
    (started a.self.now (memory a.nodes.now a.cells.now a.node_free.now a.cell_free.now) a.key a.len (sym c.in_ok-edit_first.ensures)).look.short

pub trail-requires : goal.trail-requires
trail-requires c =
    let a = c.args in
    let r = started a.self.now (memory a.nodes.now a.cells.now a.node_free.now a.cell_free.now) a.key a.len (sym c.in_ok-edit_first.ensures) in
    (r.look.short, r.look.issued_nodes)

pub returns : goal.returns
returns c =
    let a = c.args in
    walked a.self.now (memory a.nodes.now a.cells.now a.node_free.now a.cell_free.now) a.key a.len (sym c.in_ok-edit_first.ensures)
    c.mask_key.result c.mask_key.ensures c.trail.result c.trail.ensures
