-- `string_output::text_content` meets its contract.
-- Assumes nothing.
use Rattle.plain_bytes.proofs.PlainRuns.{run_plain}
use Rattle.string_output.proofs.ContentCode.{fill_on, fill_less}
use Rattle.string_output.proofs.ContentCode.{fill_start, fill_end}
use Rattle.string_output.proofs.text_content.Goals as goal

pub loop-i-init : goal.loop-i-init
loop-i-init c = search fill_start

pub run-p-requires : goal.run-p-requires
run-p-requires c = search run_plain

pub loop-i-smaller : goal.loop-i-smaller
loop-i-smaller c = search fill_less

pub loop-i-preserved : goal.loop-i-preserved
loop-i-preserved c = search fill_on

pub returns : goal.returns
returns c = search fill_end
