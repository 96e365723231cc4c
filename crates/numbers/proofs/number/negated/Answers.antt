-- `numbers::number::negated` meets its contract.
-- Assumes nothing.
use Rattle.numbers.proofs.NumberCode.{minus_ways}
use Rattle.numbers.proofs.number.negated.Goals as goal

pub returns-then-value-eq0 : goal.returns-then-value-eq0
returns-then-value-eq0 c = search minus_ways

pub returns-then-over : goal.returns-then-over
returns-then-over c = search minus_ways

pub returns-then-value-eq0-2 : goal.returns-then-value-eq0-2
returns-then-value-eq0-2 c = search minus_ways

pub returns : goal.returns
returns c = search minus_ways
