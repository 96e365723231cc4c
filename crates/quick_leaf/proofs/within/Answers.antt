-- `quick_leaf::within` meets its contract.
-- Assumes nothing.
use Rattle.quick_leaf.proofs.LeafCode.{bounded}
use Rattle.quick_leaf.proofs.within.Goals as goal

pub returns : goal.returns
returns c = search bounded
