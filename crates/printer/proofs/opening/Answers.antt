-- `printer::opening` meets its contract.
-- Assumes nothing.
use Rattle.printer.proofs.PrintSeveral.{opening_ways}
use Rattle.printer.proofs.opening.Goals as goal

pub returns-then-major-eq-ARRAY : goal.returns-then-major-eq-ARRAY
returns-then-major-eq-ARRAY c = search opening_ways

pub returns-else-major-eq-ARRAY : goal.returns-else-major-eq-ARRAY
returns-else-major-eq-ARRAY c = search opening_ways
