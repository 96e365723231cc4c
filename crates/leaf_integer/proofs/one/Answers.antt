-- `leaf_integer::one` meets its contract.
-- Assumes nothing.
use Rattle.leaf_integer.proofs.IntegerCode.{major_most, one_told}
use Rattle.leaf_integer.proofs.one.Goals as goal

pub signed-requires-clause-major_bound : goal.signed-requires-clause-major_bound
signed-requires-clause-major_bound c = search major_most

pub returns : goal.returns
returns c = search (one_told, c.in_ok-n.ensures.some)
