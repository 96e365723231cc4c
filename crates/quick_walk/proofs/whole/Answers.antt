-- `quick_walk::whole` meets its contract.
-- Assumes nothing.
use Rattle.quick_walk.proofs.QuickWays.{whole_halves, whole_ways}
use Rattle.quick_walk.proofs.whole.Goals as goal

pub pack-requires : goal.pack-requires
pack-requires c = search whole_halves

pub returns-in-Err : goal.returns-in-Err
returns-in-Err c = search whole_ways

pub returns-in-Ok : goal.returns-in-Ok
returns-in-Ok c = search whole_ways
