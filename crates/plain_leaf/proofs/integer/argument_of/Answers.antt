-- `plain_leaf::integer::argument_of` meets its contract.
-- Assumes nothing.
use Rattle.plain_leaf.proofs.IntegerCode.{argument_ways}
use Rattle.plain_leaf.proofs.integer.argument_of.Goals as goal

pub returns-then-minus : goal.returns-then-minus
returns-then-minus c = search argument_ways

pub returns-else-minus : goal.returns-else-minus
returns-else-minus c = search argument_ways
