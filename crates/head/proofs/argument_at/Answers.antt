-- `head::argument_at` meets its contract.
-- Assumes nothing.
use Rattle.head.proofs.HeadCode.{argument_ways}
use Rattle.head.proofs.argument_at.Goals as goal

pub returns-then-size-eq0 : goal.returns-then-size-eq0
returns-then-size-eq0 c = search argument_ways

pub returns : goal.returns
returns c = search argument_ways
