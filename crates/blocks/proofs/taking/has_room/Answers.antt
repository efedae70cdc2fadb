-- `blocks::taking::has_room` meets its contract: one block more fits the pool where it fits the section. Assumes nothing.
use Rattle.tiers.specs.Tiers.{section_length}
use Rattle.tiers.proofs.Tiers.{kind_pos}
use Rattle.blocks.proofs.Ways.{product_room}
use Rattle.blocks.proofs.taking.has_room.Goals as goal

pub returns : goal.returns
unfolding section_length
returns c =
    let pos = kind_pos c.args.top c.args.tier c.requires in
    rw (c.wide.ensures, c.wide-2.ensures, c.wide-3.ensures, c.spacing_of.ensures) (product_room c.args.size c.args.n _ pos)
