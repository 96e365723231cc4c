-- `encoding::heads::major_by` meets its contract.
-- Assumes nothing.
use Rattle.encoding.proofs.ReadSmall.{major_ways}
use Rattle.encoding.proofs.heads.major_by.Goals as goal

pub returns-in-1 : goal.returns-in-1
returns-in-1 c = search major_ways

pub returns-in-2 : goal.returns-in-2
returns-in-2 c = search major_ways

pub returns-in-3 : goal.returns-in-3
returns-in-3 c = search major_ways

pub returns-in-4 : goal.returns-in-4
returns-in-4 c = search major_ways

pub returns-in-5 : goal.returns-in-5
returns-in-5 c = search major_ways

pub returns-in_default : goal.returns-in_default
returns-in_default c = search major_ways
