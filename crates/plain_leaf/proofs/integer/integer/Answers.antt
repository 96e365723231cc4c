-- `plain_leaf::integer::integer` meets its contract.
-- Assumes nothing.
use Rattle.plain_leaf.proofs.IntegerCode.{number-some, integer_ways}
use Rattle.plain_leaf.proofs.integer.integer.Goals as goal

pub returns-then-not-leads : goal.returns-then-not-leads
returns-then-not-leads c = search integer_ways

pub argument_of-requires : goal.argument_of-requires
argument_of-requires c = search number-some

pub returns-then-ends : goal.returns-then-ends
returns-then-ends c = search integer_ways

pub returns-then-minus : goal.returns-then-minus
returns-then-minus c = search integer_ways

pub returns-then-next_is : goal.returns-then-next_is
returns-then-next_is c = search integer_ways

pub returns : goal.returns
returns c = search integer_ways
