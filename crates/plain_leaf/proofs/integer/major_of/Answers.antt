-- `plain_leaf::integer::major_of` meets its contract.
-- Assumes nothing.
use Rattle.plain_leaf.proofs.IntegerCode.{major_ways}
use Rattle.plain_leaf.proofs.integer.major_of.Goals as goal

pub returns-then-minus : goal.returns-then-minus
returns-then-minus c = search major_ways

pub returns-else-minus : goal.returns-else-minus
returns-else-minus c = search major_ways
