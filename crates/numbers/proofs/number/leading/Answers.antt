-- `numbers::number::leading` meets its contract.
-- Assumes nothing.
use Rattle.numbers.proofs.NumberCode.{leading_ways}
use Rattle.numbers.proofs.number.leading.Goals as goal

pub returns-then-b-eq48 : goal.returns-then-b-eq48
returns-then-b-eq48 c = search leading_ways

pub returns : goal.returns
returns c = search leading_ways
