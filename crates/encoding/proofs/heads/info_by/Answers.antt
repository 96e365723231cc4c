-- `encoding::heads::info_by` meets its contract.
-- Assumes nothing.
use Rattle.encoding.proofs.ReadSmall.{info_ways}
use Rattle.encoding.proofs.heads.info_by.Goals as goal

pub returns-in-0 : goal.returns-in-0
returns-in-0 c = search info_ways

pub returns-in-1 : goal.returns-in-1
returns-in-1 c = search info_ways

pub returns-in-3 : goal.returns-in-3
returns-in-3 c = search info_ways

pub returns-in-4 : goal.returns-in-4
returns-in-4 c = search info_ways

pub returns-in-5 : goal.returns-in-5
returns-in-5 c = search info_ways

pub returns-in-6 : goal.returns-in-6
returns-in-6 c = search info_ways

pub returns-in_default : goal.returns-in_default
returns-in_default c = search info_ways
