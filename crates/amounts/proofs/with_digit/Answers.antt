-- `amounts::with_digit` meets its contract.
-- Assumes nothing.
use Rattle.amounts.proofs.AmountCode.{sure_grown}
use Rattle.amounts.proofs.with_digit.Goals as goal

pub returns : goal.returns
returns c = search sure_grown
