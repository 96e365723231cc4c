-- `printer::separator` meets its contract.
-- Assumes nothing.
use Rattle.printer.proofs.PrintSeveral.{separator_ways}
use Rattle.printer.proofs.separator.Goals as goal

pub returns-then-first : goal.returns-then-first
returns-then-first c = search separator_ways

pub returns : goal.returns
returns c = search separator_ways
