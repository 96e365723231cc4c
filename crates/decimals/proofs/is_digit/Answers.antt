-- `decimals::is_digit` meets its contract.
-- Assumes nothing.
use Rattle.decimals.proofs.DigitCode.{digit_ways}
use Rattle.decimals.proofs.is_digit.Goals as goal

pub returns-in-48-to-57 : goal.returns-in-48-to-57
returns-in-48-to-57 c = search digit_ways

pub returns-in_default : goal.returns-in_default
returns-in_default c = search digit_ways

pub returns-in_default-2 : goal.returns-in_default-2
returns-in_default-2 c = search digit_ways
