-- `reader::again` meets its contract.
-- Assumes nothing.
use Rattle.reader.proofs.ReadItems.{again_ways}
use Rattle.reader.proofs.again.Goals as goal

pub returns-in-Err : goal.returns-in-Err
returns-in-Err c = search again_ways

pub returns-in-Ok : goal.returns-in-Ok
returns-in-Ok c = search again_ways
