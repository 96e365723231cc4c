-- `leaf_printer::string` meets its contract.
-- Assumes nothing.
use Rattle.leaf_printer.proofs.PrintHeads.{string-whole}
use Rattle.leaf_printer.proofs.string.Goals as goal

pub returns : goal.returns
returns c = search string-whole
