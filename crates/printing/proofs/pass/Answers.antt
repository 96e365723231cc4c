-- `printing::pass` meets its contract.
-- Assumes nothing.
use Rattle.printing.proofs.Laid.{pass_done}
use Rattle.printing.proofs.pass.Goals as goal

pub returns : goal.returns
returns c = search (pass_done, c.in_ok-length.ensures)
