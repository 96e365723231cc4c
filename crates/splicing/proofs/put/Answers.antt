-- `splicing::put` meets its contract.
-- Assumes nothing.
use Rattle.splicing.proofs.Putting.{put_ways}
use Rattle.splicing.proofs.put.Goals as goal

pub returns-then-p-used : goal.returns-then-p-used
returns-then-p-used c = search put_ways

pub returns-else-p-used : goal.returns-else-p-used
returns-else-p-used c = search put_ways
