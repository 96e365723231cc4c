-- `string_output::copy` meets its contract.
-- Assumes nothing.
use Rattle.string_output.proofs.ContentCode.{to_start, to_on, to_end}
use Rattle.string_output.proofs.copy.Goals as goal

pub loop-i-init : goal.loop-i-init
loop-i-init c = search to_start

pub loop-i-preserved : goal.loop-i-preserved
loop-i-preserved c = search to_on

pub returns : goal.returns
returns c = search to_end
