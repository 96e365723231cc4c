-- `leaf_printer::other_simple` meets its contract.
-- Assumes nothing.
use Rattle.leaf_printer.proofs.PrintHeads.{simple-other}
use Rattle.leaf_printer.proofs.other_simple.Goals as goal

pub returns : goal.returns
returns c = search simple-other
