-- `reader::read_items` meets its contract.
-- Assumes nothing.
use Rattle.reader.proofs.ReadContainers.{whole_room, whole-told}
use Rattle.reader.proofs.read_items.Goals as goal

pub several-requires : goal.several-requires
several-requires c = search whole_room

pub returns : goal.returns
returns c = search whole-told
