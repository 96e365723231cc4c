-- `amounts::nearly` meets its contract.
-- Assumes nothing.
use Rattle.amounts.proofs.AmountCode.{nearly_digit, nearly_zero}
use Rattle.amounts.proofs.nearly.Goals as goal

pub returns-then-d-gt0 : goal.returns-then-d-gt0
returns-then-d-gt0 c = search nearly_digit

pub returns-else-value-eq0 : goal.returns-else-value-eq0
returns-else-value-eq0 c = search nearly_zero
