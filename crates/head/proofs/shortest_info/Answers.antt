-- `head::shortest_info` meets its contract.
-- Assumes nothing.
use Rattle.head.proofs.HeadCode.{shortest_ways}
use Rattle.head.proofs.shortest_info.Goals as goal

pub returns-then-n-le23 : goal.returns-then-n-le23
returns-then-n-le23 c = search shortest_ways

pub returns-then-n-le255 : goal.returns-then-n-le255
returns-then-n-le255 c = search shortest_ways

pub returns-then-n-le65535 : goal.returns-then-n-le65535
returns-then-n-le65535 c = search shortest_ways

pub returns-then-n-le4294967295 : goal.returns-then-n-le4294967295
returns-then-n-le4294967295 c = search shortest_ways

pub returns-else-n-le4294967295 : goal.returns-else-n-le4294967295
returns-else-n-le4294967295 c = search shortest_ways
