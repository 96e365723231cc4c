-- `signs::closing` meets its contract.
-- Assumes nothing.
use Rattle.signs.proofs.SignCode.{close_yes, close_no, close_from}
use Rattle.signs.proofs.closing.Goals as goal

pub indicator_at-m-requires : goal.indicator_at-m-requires
indicator_at-m-requires c = search close_from

pub returns-then-next_is : goal.returns-then-next_is
returns-then-next_is c = search close_yes

pub returns : goal.returns
returns c = search close_no
