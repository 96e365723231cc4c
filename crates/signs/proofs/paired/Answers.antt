-- `signs::paired` meets its contract.
-- Assumes nothing.
use Rattle.signs.proofs.SignCode.{pair-yes, pair-no}
use Rattle.signs.proofs.paired.Goals as goal

pub returns-then-next_is : goal.returns-then-next_is
returns-then-next_is c = search pair-yes

pub returns : goal.returns
returns c = search pair-no
