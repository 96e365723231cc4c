-- `decimals::eight::number_of` meets its contract.
-- Assumes nothing.
use Rattle.decimals.proofs.WordCode.{tens_fit, twos_fit, number_is}
use Rattle.decimals.proofs.eight.number_of.Goals as goal

pub overflow_mul-y : goal.overflow_mul-y
overflow_mul-y c = search tens_fit

pub overflow_add-y : goal.overflow_add-y
overflow_add-y c = search twos_fit

pub returns : goal.returns
returns c = search number_is
