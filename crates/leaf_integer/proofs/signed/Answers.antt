-- `leaf_integer::signed` meets its contract.
-- Assumes nothing.
use Rattle.leaf_integer.proofs.IntegerCode.{sum-fits}
use Rattle.leaf_integer.proofs.signed.Goals as goal

pub overflow_add-result : goal.overflow_add-result
overflow_add-result g c = search sum-fits
