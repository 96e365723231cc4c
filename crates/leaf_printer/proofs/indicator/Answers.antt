-- `leaf_printer::indicator` meets its contract.
-- Assumes nothing.
use Rattle.leaf_printer.proofs.PrintHeads.{mark-none, mark-some}
use Rattle.leaf_printer.proofs.indicator.Goals as goal

pub returns-then-is_shortest : goal.returns-then-is_shortest
returns-then-is_shortest c = search mark-none

pub returns : goal.returns
returns c = search mark-some
