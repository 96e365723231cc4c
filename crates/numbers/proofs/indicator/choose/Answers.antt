-- `numbers::indicator::choose` meets its contract.
-- Assumes nothing.
use Rattle.numbers.proofs.IndicatorCode.{choose_ways}
use Rattle.numbers.proofs.indicator.choose.Goals as goal

pub returns-then-mark-eq-NONE : goal.returns-then-mark-eq-NONE
returns-then-mark-eq-NONE c = search choose_ways

pub returns-then-mark-le-UNKNOWN : goal.returns-then-mark-le-UNKNOWN
returns-then-mark-le-UNKNOWN c = search choose_ways

pub returns-then-n-limit_of : goal.returns-then-n-limit_of
returns-then-n-limit_of c = search choose_ways

pub returns : goal.returns
returns c = search choose_ways
