-- `reader::single` meets its contract.
-- Assumes nothing.
use Rattle.reader.proofs.ReadContainers.{one_told}
use Rattle.reader.proofs.single.Goals as goal

pub returns : goal.returns
returns c = search one_told
