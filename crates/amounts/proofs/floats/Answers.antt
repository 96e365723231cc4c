-- `amounts::floats` meets its contract.
-- Assumes nothing.
use Rattle.amounts.proofs.AmountCode.{float-end, float-at}
use Rattle.amounts.proofs.floats.Goals as goal

pub returns-then-at-text : goal.returns-then-at-text
returns-then-at-text c = search float-at

pub returns-else-at-text : goal.returns-else-at-text
returns-else-at-text c = search float-end
