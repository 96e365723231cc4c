-- `quick_walk::shift` meets its contract.
-- Assumes nothing.
use Rattle.quick_walk.proofs.QuickWays.{shift_add, shift_ways}
use Rattle.quick_walk.proofs.shift.Goals as goal

pub returns-then-r-eq-UNKNOWN : goal.returns-then-r-eq-UNKNOWN
returns-then-r-eq-UNKNOWN c = search shift_ways

pub overflow_add-result : goal.overflow_add-result
overflow_add-result c = search shift_add

pub returns : goal.returns
returns c = search shift_ways
