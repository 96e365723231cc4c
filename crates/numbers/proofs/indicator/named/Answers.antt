-- `numbers::indicator::named` meets its contract.
-- Assumes nothing.
use Rattle.numbers.proofs.IndicatorCode.{name_ways, name_index}
use Rattle.numbers.proofs.indicator.named.Goals as goal

pub returns-then-size-eq0 : goal.returns-then-size-eq0
returns-then-size-eq0 c = search name_ways

pub returns-then-size-gt1 : goal.returns-then-size-gt1
returns-then-size-gt1 c = search name_ways

pub bounds-text-from : goal.bounds-text-from
bounds-text-from c = search name_index

pub returns-in-105 : goal.returns-in-105
returns-in-105 c = search name_ways

pub returns-in-48 : goal.returns-in-48
returns-in-48 c = search name_ways

pub returns-in-49 : goal.returns-in-49
returns-in-49 c = search name_ways

pub returns-in-50 : goal.returns-in-50
returns-in-50 c = search name_ways

pub returns-in-51 : goal.returns-in-51
returns-in-51 c = search name_ways

pub returns-in_default : goal.returns-in_default
returns-in_default c = search name_ways
