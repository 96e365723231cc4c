-- `head::write_head` meets its contract.
-- Assumes nothing.
use Rattle.head.proofs.HeadCode.{write_ways, write_same}
use Rattle.head.proofs.write_head.Goals as goal

pub returns-then-out-at : goal.returns-then-out-at
returns-then-out-at c = search write_ways

pub returns-then-out-at-2 : goal.returns-then-out-at-2
returns-then-out-at-2 c = search write_ways

pub shape_of-out : goal.shape_of-out
shape_of-out c = search write_same

pub returns : goal.returns
returns c = search write_ways
