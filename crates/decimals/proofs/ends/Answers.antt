-- `decimals::ends` meets its contract.
-- Assumes nothing.
use Rattle.decimals.proofs.DigitCode.{ends_ways}
use Rattle.decimals.proofs.ends.Goals as goal

pub returns-then-text-at : goal.returns-then-text-at
returns-then-text-at c = search ends_ways

pub returns-else-text-at : goal.returns-else-text-at
returns-else-text-at c = search ends_ways
