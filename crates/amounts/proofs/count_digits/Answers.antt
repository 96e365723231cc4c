-- `amounts::count_digits` meets its contract.
-- Assumes nothing.
use Rattle.amounts.proofs.AmountCode.{tally_start, tally_step, tally_stop, tally_end}
use Rattle.amounts.proofs.count_digits.Goals as goal

pub loop-next-init : goal.loop-next-init
loop-next-init c = search tally_start

pub returns-then-radix-d : goal.returns-then-radix-d
returns-then-radix-d c = search tally_stop

pub loop-next-preserved : goal.loop-next-preserved
loop-next-preserved c = search tally_step

pub returns : goal.returns
returns c = search tally_end
