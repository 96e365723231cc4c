-- `plain_string::block::nibble` meets its contract.
-- Assumes nothing.
use Rattle.plain_string.proofs.BlockCode.{nibble_is}
use Rattle.plain_string.proofs.block.nibble.Goals as goal

pub returns : goal.returns
returns c = search nibble_is
