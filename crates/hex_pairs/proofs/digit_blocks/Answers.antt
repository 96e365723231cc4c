-- `hex_pairs::digit_blocks` meets its contract.
-- Assumes nothing.
use Rattle.hex_pairs.proofs.PairsCode.{run-block, run-part}
use Rattle.hex_pairs.proofs.digit_blocks.Goals as goal

pub returns-then-n-lt32 : goal.returns-then-n-lt32
returns-then-n-lt32 c = search run-part

pub loop-at-preserved : goal.loop-at-preserved
loop-at-preserved c = search run-block
