-- `quick_walk::plain` meets its contract.
-- Assumes nothing.
use Rattle.quick_walk.proofs.QuickWays.{quick_not, number_halves, plain_ways}
use Rattle.quick_head.proofs.QuickHeadCode.{two_lengthy, lengthy}
use Rattle.walk_parts.proofs.WalkItems.{one-room, one_inside}
use Rattle.quick_walk.proofs.plain.Goals as goal

pub string-requires : goal.string-requires
string-requires c = search two_lengthy

pub returns-in_default : goal.returns-in_default
returns-in_default c = search quick_not

pub bounds-bytes-0 : goal.bounds-bytes-0
bounds-bytes-0 c = search one_inside

pub pack-requires : goal.pack-requires
pack-requires c = search number_halves

pub returns-then-major-lt-BYTE_STRING : goal.returns-then-major-lt-BYTE_STRING
returns-then-major-lt-BYTE_STRING c = search plain_ways

pub head_argument-requires : goal.head_argument-requires
head_argument-requires c = search one-room

pub string-requires-2 : goal.string-requires-2
string-requires-2 c = search lengthy
