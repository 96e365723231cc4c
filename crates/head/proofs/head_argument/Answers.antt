-- `head::head_argument` meets its contract.
-- Assumes nothing.
use Rattle.head.proofs.HeadCode.{argued_ways, argued-room}
use Rattle.head.proofs.head_argument.Goals as goal

pub returns-then-is_short : goal.returns-then-is_short
returns-then-is_short c = search argued_ways

pub argument_at-requires : goal.argument_at-requires
argument_at-requires c = search argued-room

pub returns-in-OpenEnded : goal.returns-in-OpenEnded
returns-in-OpenEnded c = search argued_ways

pub returns-in_default : goal.returns-in_default
returns-in_default c = search argued_ways
