-- `plain_string::block::put_short` meets its contract.
-- Assumes nothing.
use Rattle.plain_string.proofs.BlockCode.{short-text}
use Rattle.plain_string.proofs.block.put_short.Goals as goal

pub returns : goal.returns
returns c = search short-text
