-- `checking::check` meets its contract.
-- Assumes nothing.
use Rattle.checking.proofs.Scans.{check_told_lem}
use Rattle.checking.proofs.check.Goals as goal

pub returns : goal.returns
returns c = search check_told_lem
