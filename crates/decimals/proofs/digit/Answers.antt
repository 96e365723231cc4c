-- `decimals::digit` meets its contract.
-- Assumes nothing.
use Rattle.decimals.proofs.DigitCode.{worth_sub, worth-is}
use Rattle.decimals.proofs.digit.Goals as goal

pub overflow_sub-result : goal.overflow_sub-result
overflow_sub-result c = search worth_sub

pub returns : goal.returns
returns c = search worth-is
