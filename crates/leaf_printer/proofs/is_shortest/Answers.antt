-- `leaf_printer::is_shortest` meets its contract.
-- Assumes nothing.
use Rattle.leaf_printer.proofs.PrintHeads.{shortest_test}
use Rattle.leaf_printer.proofs.is_shortest.Goals as goal

pub returns : goal.returns
returns c = search shortest_test
