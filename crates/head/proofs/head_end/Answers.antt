-- `head::head_end` meets its contract.
-- Assumes nothing.
use Rattle.head.proofs.HeadCode.{ends_ways}
use Rattle.head.proofs.head_end.Goals as goal

pub returns-then-bytes-at : goal.returns-then-bytes-at
returns-then-bytes-at c = search ends_ways

pub returns-then-is_short : goal.returns-then-is_short
returns-then-is_short c = search ends_ways
