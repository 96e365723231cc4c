-- `plain_string::block::put_short_hex` meets its contract.
-- Assumes nothing.
use Rattle.plain_string.proofs.BlockCode.{short-pairs}
use Rattle.plain_string.proofs.block.put_short_hex.Goals as goal

pub returns : goal.returns
returns c = search short-pairs
