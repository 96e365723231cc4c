-- `quick_walk::passed` meets its contract.
-- Assumes nothing.
use Rattle.quick_walk.proofs.QuickWays.{quick_not, small_all}
use Rattle.quick_walk.proofs.passed.Goals as goal

pub returns-then-bytes-gt-MOST_BYTES : goal.returns-then-bytes-gt-MOST_BYTES
returns-then-bytes-gt-MOST_BYTES g c = search quick_not

pub run-requires : goal.run-requires
run-requires g c = search small_all
