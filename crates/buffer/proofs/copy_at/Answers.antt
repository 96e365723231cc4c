-- `buffer::copy_at` meets its contract.
-- Assumes nothing.
use Rattle.buffer.proofs.EmitCode.{copy_start, copy_step, copy_end, copy_long, copy_not}
use Rattle.buffer.proofs.copy_at.Goals as goal
use Rattle.buffer.proofs.copy_at.Goals.{else-fits-via-then-fits+else-n-from, else-fits-via-else-fits}

pub loop-i-init : goal.loop-i-init
loop-i-init c = search copy_start

pub loop-i-preserved : goal.loop-i-preserved
loop-i-preserved c = search copy_step

pub returns-after-loop-i : goal.returns-after-loop-i
returns-after-loop-i c = search copy_end

pub returns-else-fits : goal.returns-else-fits
returns-else-fits c = elim c.else-fits.branch [ else-fits-via-then-fits+else-n-from w ↦ search copy_long | else-fits-via-else-fits w ↦ search copy_not ]
