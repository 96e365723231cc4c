-- `decimal_output::successor` meets its contract.
-- Assumes nothing.
use Rattle.decimal_output.proofs.DecimalCode.{next_ways}
use Rattle.decimal_output.proofs.successor.Goals as goal

pub returns-then-n-eq18446744073709551615 : goal.returns-then-n-eq18446744073709551615
returns-then-n-eq18446744073709551615 c = search next_ways

pub returns : goal.returns
returns c = search next_ways
