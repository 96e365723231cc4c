-- `hex_pairs::put_blocks` meets its contract.
-- Assumes nothing.
use Rattle.hex_pairs.proofs.PairsCode.{blocks_start, blocks_on, blocks_end, block-digits}
use Rattle.hex_pairs.proofs.put_blocks.Goals as goal

pub loop-i-init : goal.loop-i-init
loop-i-init c = search blocks_start

pub put_block-p-requires : goal.put_block-p-requires
put_block-p-requires c = search block-digits

pub loop-i-preserved : goal.loop-i-preserved
loop-i-preserved c = search blocks_on

pub returns : goal.returns
returns c = search blocks_end
