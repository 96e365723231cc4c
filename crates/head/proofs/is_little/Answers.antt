-- `head::is_little` meets its contract.
-- Assumes nothing.
use Rattle.head.proofs.HeadCode.{little_ways}
use Rattle.head.proofs.is_little.Goals as goal

pub returns-then-initial-ne-SIMPLE_IN_ONE_BYTE : goal.returns-then-initial-ne-SIMPLE_IN_ONE_BYTE
returns-then-initial-ne-SIMPLE_IN_ONE_BYTE c = search little_ways

pub returns : goal.returns
returns c = search little_ways
