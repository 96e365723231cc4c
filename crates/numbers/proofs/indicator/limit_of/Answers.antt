-- `numbers::indicator::limit_of` meets its contract.
-- Assumes nothing.
use Rattle.numbers.proofs.IndicatorCode.{limit_ways}
use Rattle.numbers.proofs.indicator.limit_of.Goals as goal

pub returns-in-3 : goal.returns-in-3
returns-in-3 c = search limit_ways

pub returns-in-4 : goal.returns-in-4
returns-in-4 c = search limit_ways

pub returns-in-5 : goal.returns-in-5
returns-in-5 c = search limit_ways

pub returns-in-6 : goal.returns-in-6
returns-in-6 c = search limit_ways

pub returns-in_default : goal.returns-in_default
returns-in_default c = search limit_ways
