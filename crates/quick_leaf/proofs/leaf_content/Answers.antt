-- `quick_leaf::leaf_content` meets its contract.
-- Assumes nothing.
use Rattle.quick_leaf.proofs.LeafCode.{content-is}
use Rattle.quick_leaf.proofs.leaf_content.Goals as goal

pub returns : goal.returns
returns c = search content-is
