-- `string_output::content_bytes` meets its contract.
-- Assumes nothing.
use Rattle.string_output.proofs.ContentCode.{fill_start, fill_step, fill_end}
use Rattle.string_output.proofs.content_bytes.Goals as goal

pub loop-b-init : goal.loop-b-init
loop-b-init c = search fill_start

pub loop-b-preserved : goal.loop-b-preserved
loop-b-preserved c = search fill_step

pub returns : goal.returns
returns c = search fill_end
