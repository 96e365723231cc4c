-- `text_output::put_all` meets its contract.
-- Assumes nothing.
use Rattle.text_output.proofs.PrintLeaves.{copy_start, copy_step}
use Rattle.text_output.proofs.put_all.Goals as goal

pub loop-b-init : goal.loop-b-init
loop-b-init c = search copy_start

pub loop-b-preserved : goal.loop-b-preserved
loop-b-preserved c = search copy_step
