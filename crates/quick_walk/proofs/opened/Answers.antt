-- `quick_walk::opened` meets its contract.
-- Assumes nothing.
use Rattle.quick_walk.proofs.QuickWays.{opens_ways}
use Rattle.quick_walk.proofs.opened.Goals as goal

pub returns-then-levels-eq0 : goal.returns-then-levels-eq0
returns-then-levels-eq0 c = search opens_ways

pub returns-then-bytes-eq0 : goal.returns-then-bytes-eq0
returns-then-bytes-eq0 c = search opens_ways

pub returns : goal.returns
returns c = search opens_ways
