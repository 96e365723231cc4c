-- `leaf_printer::integer` meets its contract.
-- Assumes nothing.
use Rattle.leaf_printer.proofs.PrintHeads.{int_ways}
use Rattle.leaf_printer.proofs.integer.Goals as goal

pub returns-then-negative : goal.returns-then-negative
returns-then-negative c = search int_ways

pub returns-else-negative : goal.returns-else-negative
returns-else-negative c = search int_ways
