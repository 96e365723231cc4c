-- `amounts::fits` meets its contract.
-- Assumes nothing.
use Rattle.amounts.proofs.AmountCode.{limit-over, limit_mul, limit_sub, limit_is}
use Rattle.amounts.proofs.fits.Goals as goal

pub overflow_mul-result : goal.overflow_mul-result
overflow_mul-result c = search limit_mul

pub overflow_sub-result : goal.overflow_sub-result
overflow_sub-result c = search limit_sub

pub returns-then-value-bound : goal.returns-then-value-bound
returns-then-value-bound c = search limit_is

pub returns-else-value-bound : goal.returns-else-value-bound
returns-else-value-bound c = search limit-over
