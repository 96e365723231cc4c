-- `quick_leaf::is_right` meets its contract.
-- Assumes nothing.
use Rattle.quick_leaf.proofs.LeafCode.{right_by}
use Rattle.quick_leaf.proofs.is_right.Goals as goal

pub returns : goal.returns
returns c = search right_by
