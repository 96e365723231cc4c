-- `leaf_printer::size_mark` meets its contract.
-- Assumes nothing.
use Rattle.leaf_printer.proofs.PrintHeads.{size_ways}
use Rattle.leaf_printer.proofs.size_mark.Goals as goal

pub returns-then-info-eq-INDEFINITE_LENGTH : goal.returns-then-info-eq-INDEFINITE_LENGTH
returns-then-info-eq-INDEFINITE_LENGTH c = search size_ways

pub returns-then-is_shortest : goal.returns-then-is_shortest
returns-then-is_shortest c = search size_ways

pub returns : goal.returns
returns c = search size_ways
