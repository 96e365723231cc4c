-- `head::read_head` meets its contract.
-- Assumes nothing.
use Rattle.head.proofs.HeadCode.{head_ways, head-short, argument-room}
use Rattle.head.proofs.read_head.Goals as goal

pub returns-then-bytes-at : goal.returns-then-bytes-at
returns-then-bytes-at c = search head_ways

pub returns-then-bytes-at-2 : goal.returns-then-bytes-at-2
returns-then-bytes-at-2 c = search head-short

pub argument_at-argument-requires : goal.argument_at-argument-requires
argument_at-argument-requires c = search argument-room

pub returns-then-argument-least_argument : goal.returns-then-argument-least_argument
returns-then-argument-least_argument c = search head_ways

pub returns-in-Refused : goal.returns-in-Refused
returns-in-Refused c = search head_ways

pub returns-in-OpenEnded : goal.returns-in-OpenEnded
returns-in-OpenEnded c = search head_ways

pub returns-else-argument-least_argument : goal.returns-else-argument-least_argument
returns-else-argument-least_argument c = search head_ways
