-- `numbers::number::radix_of` meets its contract.
-- Assumes nothing.
use Rattle.numbers.proofs.NumberCode.{radix_ways}
use Rattle.numbers.proofs.number.radix_of.Goals as goal

pub returns-in-120 : goal.returns-in-120
returns-in-120 c = search radix_ways

pub returns-in-111 : goal.returns-in-111
returns-in-111 c = search radix_ways

pub returns-in-98 : goal.returns-in-98
returns-in-98 c = search radix_ways

pub returns-in_default : goal.returns-in_default
returns-in_default c = search radix_ways
