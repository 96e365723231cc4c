-- `looking::guided::whole` meets its contract.
-- Assumes nothing.
use Rattle.looking.proofs.Guiding.{whole_ways}
use Rattle.looking.proofs.guided.whole.Goals as goal

pub returns-then-bytes-end : goal.returns-then-bytes-end
returns-then-bytes-end c = search whole_ways

pub returns : goal.returns
returns c = search whole_ways
