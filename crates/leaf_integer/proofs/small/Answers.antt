-- `leaf_integer::small` meets its contract.
-- Assumes nothing.
use Rattle.leaf_integer.proofs.IntegerCode.{major_most, small-told}
use Rattle.leaf_integer.proofs.small.Goals as goal

pub sign-p-requires-clause-major_bound : goal.sign-p-requires-clause-major_bound
sign-p-requires-clause-major_bound c = search major_most

pub returns : goal.returns
returns c = search small-told
