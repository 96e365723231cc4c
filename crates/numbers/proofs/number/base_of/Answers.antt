-- `numbers::number::base_of` meets its contract.
-- Assumes nothing.
use Rattle.numbers.proofs.NumberCode.{base_ways}
use Rattle.numbers.proofs.number.base_of.Goals as goal

pub returns-then-b-eq48 : goal.returns-then-b-eq48
returns-then-b-eq48 c = search base_ways

pub returns : goal.returns
returns c = search base_ways
