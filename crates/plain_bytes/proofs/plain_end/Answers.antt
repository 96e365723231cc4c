-- `plain_bytes::plain_end` meets its contract.
-- Assumes nothing.
use Rattle.plain_bytes.proofs.PlainRuns.{run-start, run_on}
use Rattle.plain_bytes.proofs.plain_end.Goals as goal

pub loop-end-init : goal.loop-end-init
loop-end-init c = search run-start

pub loop-end-preserved : goal.loop-end-preserved
loop-end-preserved c = search run_on
