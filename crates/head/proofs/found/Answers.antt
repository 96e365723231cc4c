-- `head::found` meets its contract.
-- Assumes nothing.
use Rattle.head.proofs.HeadCode.{told-head}
use Rattle.head.proofs.found.Goals as goal

pub returns : goal.returns
returns c = search told-head
