-- `leaf_string::digits` meets its contract.
-- Assumes nothing.
use Rattle.leaf_string.proofs.StringCode.{digits_ways}
use Rattle.leaf_string.proofs.digits.Goals as goal

pub returns-then-n-gt-HALF : goal.returns-then-n-gt-HALF
returns-then-n-gt-HALF c = search digits_ways

pub returns-else-n-gt-HALF : goal.returns-else-n-gt-HALF
returns-else-n-gt-HALF c = search digits_ways

pub returns-else-n-gt-QUARTER : goal.returns-else-n-gt-QUARTER
returns-else-n-gt-QUARTER c = search digits_ways
