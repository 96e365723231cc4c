-- `printer::moves` meets its contract.
-- Assumes nothing.
use Rattle.printer.proofs.PrintSeveral.{moves_ways}
use Rattle.printer.proofs.moves.Goals as goal

pub returns-then-end-at : goal.returns-then-end-at
returns-then-end-at c = search moves_ways

pub returns : goal.returns
returns c = search moves_ways
