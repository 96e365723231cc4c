-- `signs::dots` meets its contract.
-- Assumes nothing.
use Rattle.signs.proofs.SignCode.{dot_ways}
use Rattle.signs.proofs.dots.Goals as goal

pub returns-then-next_is-2 : goal.returns-then-next_is-2
returns-then-next_is-2 c = search dot_ways

pub returns-then-next_is : goal.returns-then-next_is
returns-then-next_is c = search dot_ways

pub returns : goal.returns
returns c = search dot_ways
