-- `decimal_output::decimal` meets its contract.
-- Assumes nothing.
use Rattle.decimal_output.proofs.DecimalCode.{decimal_ways}
use Rattle.decimal_output.proofs.+decimal.Goals as goal

pub returns-then-n-lt10 : goal.returns-then-n-lt10
returns-then-n-lt10 t c = search decimal_ways

pub returns : goal.returns
returns t c = search decimal_ways
