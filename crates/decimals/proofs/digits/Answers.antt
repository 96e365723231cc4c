-- `decimals::digits` meets its contract.
-- Assumes nothing.
use Rattle.decimals.proofs.DigitCode.{tally_on}
use Rattle.decimals.proofs.digits.Goals as goal

pub loop-end-preserved : goal.loop-end-preserved
loop-end-preserved c = search tally_on
