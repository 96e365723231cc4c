-- `head::long_end` meets its contract.
-- Assumes nothing.
use Rattle.head.proofs.HeadCode.{long_ways, argument-room}
use Rattle.head.proofs.long_end.Goals as goal

pub returns-then-bytes-at : goal.returns-then-bytes-at
returns-then-bytes-at c = search long_ways

pub is_little-requires : goal.is_little-requires
is_little-requires c = search argument-room

pub returns-then-is_little : goal.returns-then-is_little
returns-then-is_little c = search long_ways

pub returns-in-Refused : goal.returns-in-Refused
returns-in-Refused c = search long_ways

pub returns-in-OpenEnded : goal.returns-in-OpenEnded
returns-in-OpenEnded c = search long_ways

pub returns-else-is_little : goal.returns-else-is_little
returns-else-is_little c = search long_ways
