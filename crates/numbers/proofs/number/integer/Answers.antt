-- `numbers::number::integer` meets its contract.
-- Assumes nothing.
use Rattle.numbers.proofs.NumberCode.{integer_minus, integer_plain}
use Rattle.numbers.proofs.number.integer.Goals as goal

pub returns-then-minus : goal.returns-then-minus
returns-then-minus c = search integer_minus

pub returns : goal.returns
returns c = search integer_plain
