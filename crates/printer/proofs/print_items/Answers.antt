-- `printer::print_items` meets its contract.
-- Assumes nothing.
use Rattle.printer.proofs.PrintText.{text-none, text-all}
use Rattle.printer.proofs.print_items.Goals as goal

pub returns-then-bytes-eq0 : goal.returns-then-bytes-eq0
returns-then-bytes-eq0 c = search text-none

pub returns : goal.returns
returns c = search text-all
