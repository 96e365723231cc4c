-- `printer::string` meets its contract.
-- Assumes nothing.
use Rattle.printer.proofs.PrintWays.{string_ways}
use Rattle.printer.proofs.string.Goals as goal

pub returns-then-bytes-from : goal.returns-then-bytes-from
returns-then-bytes-from c = search string_ways

pub returns : goal.returns
returns c = search string_ways
