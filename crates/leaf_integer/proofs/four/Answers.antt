-- `leaf_integer::four` meets its contract.
-- Assumes nothing.
use Rattle.leaf_integer.proofs.IntegerCode.{major_most, four-told}
use Rattle.leaf_integer.proofs.four.Goals as goal

pub signed-requires-clause-major_bound : goal.signed-requires-clause-major_bound
signed-requires-clause-major_bound c = search major_most

pub returns : goal.returns
returns c = search (four-told, c.in_ok-n.ensures.some)
