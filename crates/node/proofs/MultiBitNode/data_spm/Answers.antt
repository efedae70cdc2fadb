-- `node::MultiBitNode::data_spm` meets its contract: the lowest bit that the bitmap and the mask share, or nothing. Assumes nothing.
use Rattle.node.proofs.MatchBits.{lowest_picked}
use Rattle.node.proofs.MultiBitNode.data_spm.Goals as goal

pub returns : goal.returns
returns c =
    let v = c.args.v in
    lowest_picked c.args.self.data_bitmap v.depth v.key v.len v.in_tree c.shared.result c.shared.ensures
