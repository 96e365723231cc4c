-- `numbers::number::decimal` meets its contract.
-- Assumes nothing.
use Rattle.numbers.proofs.NumberCode.{decimal_ways}
use Rattle.numbers.proofs.number.decimal.Goals as goal

pub returns-then-minus : goal.returns-then-minus
returns-then-minus c = search decimal_ways

pub returns-then-next_is : goal.returns-then-next_is
returns-then-next_is c = search decimal_ways

pub returns : goal.returns
returns c = search decimal_ways
