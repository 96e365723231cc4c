-- `hex_pairs::put_block` meets its contract.
-- Assumes nothing.
use Rattle.hex_pairs.proofs.PairsCode.{block_start, block_on, block_ways}
use Rattle.hex_pairs.proofs.put_block.Goals as goal
use Rattle.hex_pairs.proofs.put_block.Goals.{then-out-p-via-then-out-p, then-out-p-via-else-out-p+then-out-p-lt16}

pub returns-then-out-p : goal.returns-then-out-p
returns-then-out-p c = elim c.then-out-p.branch [ then-out-p-via-then-out-p w ↦ search block_ways | then-out-p-via-else-out-p+then-out-p-lt16 w ↦ search block_ways ]

pub loop-j-init : goal.loop-j-init
loop-j-init c = search block_start

pub loop-j-preserved : goal.loop-j-preserved
loop-j-preserved c = search block_on
