-- `numbers::indicator::indicator_at` meets its contract.
-- Assumes nothing.
use Rattle.numbers.proofs.IndicatorCode.{indicator-some, indicator-none, indicator-from}
use Rattle.numbers.proofs.indicator.indicator_at.Goals as goal

pub word-end-requires : goal.word-end-requires
word-end-requires c = search indicator-from

pub returns-then-next_is : goal.returns-then-next_is
returns-then-next_is c = search indicator-some

pub returns : goal.returns
returns c = search indicator-none
