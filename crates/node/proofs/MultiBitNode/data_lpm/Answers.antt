-- `node::MultiBitNode::data_lpm` meets its contract: the highest bit that the bitmap and the mask share, or nothing. Assumes nothing.
use Rattle.node.proofs.MatchBits.{highest_picked}
use Rattle.node.proofs.MultiBitNode.data_lpm.Goals as goal

pub returns : goal.returns
returns c =
    let v = c.args.v in
    highest_picked c.args.self.data_bitmap v.depth v.key v.len v.in_tree c.shared.result c.shared.ensures
