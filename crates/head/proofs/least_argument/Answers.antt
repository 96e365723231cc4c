-- `head::least_argument` meets its contract.
-- Assumes nothing.
use Rattle.head.proofs.HeadCode.{least_ways}
use Rattle.head.proofs.least_argument.Goals as goal

pub returns-then-initial-eq-SIMPLE_IN_ONE_BYTE : goal.returns-then-initial-eq-SIMPLE_IN_ONE_BYTE
returns-then-initial-eq-SIMPLE_IN_ONE_BYTE c = search least_ways

pub returns-else-initial-eq-SIMPLE_IN_ONE_BYTE : goal.returns-else-initial-eq-SIMPLE_IN_ONE_BYTE
returns-else-initial-eq-SIMPLE_IN_ONE_BYTE c = search least_ways
