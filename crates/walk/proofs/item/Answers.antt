-- `walk::item` meets its contract.
-- Assumes nothing.
use Rattle.walk_parts.proofs.WalkItems.{item-is}
use Rattle.walk.proofs.item.Goals as goal

pub returns : goal.returns
returns c = search item-is
