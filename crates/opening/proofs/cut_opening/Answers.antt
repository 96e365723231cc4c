-- `opening::cut_opening` meets its contract.
-- Assumes nothing.
use Rattle.opening.proofs.Openers.{opening_by_lem}
use Rattle.opening.proofs.cut_opening.Goals as goal

pub returns : goal.returns
returns c = search opening_by_lem
