-- `reader::flat` meets its contract.
-- Assumes nothing.
use Rattle.reader.proofs.ReadItems.{item-leaf, item-whole, room-inside}
use Rattle.reader.proofs.flat.Goals as goal

pub skip-here-requires : goal.skip-here-requires
skip-here-requires c = search room-inside

pub returns-then-is_leaf : goal.returns-then-is_leaf
returns-then-is_leaf c = search item-leaf

pub returns : goal.returns
returns c = search item-whole
