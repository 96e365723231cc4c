-- `plain_bytes::is_plain` meets its contract.
-- Assumes nothing.
use Rattle.plain_bytes.proofs.PlainRuns.{most-start, most-on, most-end}
use Rattle.plain_bytes.proofs.is_plain.Goals as goal

pub loop-b-init : goal.loop-b-init
loop-b-init c = search most-start

pub loop-b-preserved : goal.loop-b-preserved
loop-b-preserved c = search most-on

pub returns : goal.returns
returns c = search most-end
