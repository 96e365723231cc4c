-- `head::write_number` meets its contract.
-- Assumes nothing.
use Rattle.head.proofs.HeadCode.{fill_start, fill_step, fill_ways}
use Rattle.head.proofs.write_number.Goals as goal

pub returns-then-out-size : goal.returns-then-out-size
returns-then-out-size c = search fill_ways

pub returns-then-out-size-2 : goal.returns-then-out-size-2
returns-then-out-size-2 c = search fill_ways

pub loop-k-init : goal.loop-k-init
loop-k-init c = search fill_start

pub loop-k-preserved : goal.loop-k-preserved
loop-k-preserved c = search fill_step

pub returns : goal.returns
returns c = search fill_ways
