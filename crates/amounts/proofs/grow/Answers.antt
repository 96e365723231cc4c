-- `amounts::grow` meets its contract.
-- Assumes nothing.
use Rattle.amounts.proofs.AmountCode.{grow_ways, grow_mul, grow_add}
use Rattle.amounts.proofs.grow.Goals as goal

pub returns-then-a : goal.returns-then-a
returns-then-a c = search grow_ways

pub overflow_mul-result : goal.overflow_mul-result
overflow_mul-result c = search grow_mul

pub overflow_add-result : goal.overflow_add-result
overflow_add-result c = search grow_add

pub returns-then-fits : goal.returns-then-fits
returns-then-fits c = search grow_ways

pub returns-then-nearly : goal.returns-then-nearly
returns-then-nearly c = search grow_ways

pub returns : goal.returns
returns c = search grow_ways
