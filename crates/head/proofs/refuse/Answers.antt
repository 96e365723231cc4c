-- `head::refuse` meets its contract.
-- Assumes nothing.
use Rattle.head.proofs.HeadCode.{told-refused}
use Rattle.head.proofs.refuse.Goals as goal

pub returns : goal.returns
returns c = search told-refused
