-- `head::read_number` meets its contract.
-- Assumes nothing.
use Rattle.head.proofs.HeadCode.{number-start, number_mul, number_add, number_step, number-end}
use Rattle.head.proofs.read_number.Goals as goal

pub loop-i-init : goal.loop-i-init
loop-i-init c = search number-start

pub overflow_mul-v : goal.overflow_mul-v
overflow_mul-v c = search number_mul

pub overflow_add-v : goal.overflow_add-v
overflow_add-v c = search number_add

pub loop-i-preserved : goal.loop-i-preserved
loop-i-preserved c = search number_step

pub returns : goal.returns
returns c = search number-end
