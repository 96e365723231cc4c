-- `numbers::indicator::shortest` meets its contract.
-- Assumes nothing.
use Rattle.numbers.proofs.IndicatorCode.{short_ways}
use Rattle.numbers.proofs.indicator.shortest.Goals as goal

pub returns-then-n-le-LAST_IMMEDIATE : goal.returns-then-n-le-LAST_IMMEDIATE
returns-then-n-le-LAST_IMMEDIATE c = search short_ways

pub returns-then-n-le255 : goal.returns-then-n-le255
returns-then-n-le255 c = search short_ways

pub returns-then-n-le65535 : goal.returns-then-n-le65535
returns-then-n-le65535 c = search short_ways

pub returns-then-n-le4294967295 : goal.returns-then-n-le4294967295
returns-then-n-le4294967295 c = search short_ways

pub returns : goal.returns
returns c = search short_ways
