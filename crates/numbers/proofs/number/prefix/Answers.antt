-- `numbers::number::prefix` meets its contract.
-- Assumes nothing.
use Rattle.numbers.proofs.NumberCode.{prefix_ways}
use Rattle.numbers.proofs.number.prefix.Goals as goal

pub returns-then-text-at : goal.returns-then-text-at
returns-then-text-at c = search prefix_ways

pub returns-then-text-at-lt2 : goal.returns-then-text-at-lt2
returns-then-text-at-lt2 c = search prefix_ways

pub returns-then-digit_value-radix : goal.returns-then-digit_value-radix
returns-then-digit_value-radix c = search prefix_ways

pub returns : goal.returns
returns c = search prefix_ways
