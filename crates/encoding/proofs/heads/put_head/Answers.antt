-- `encoding::heads::put_head` meets its contract.
-- Assumes nothing.
use Rattle.encoding.proofs.ReadWriting.{written_ways}
use Rattle.encoding.proofs.heads.put_head.Goals as goal

pub returns-then-size-eq1 : goal.returns-then-size-eq1
returns-then-size-eq1 c = search written_ways

pub returns : goal.returns
returns c = search written_ways
