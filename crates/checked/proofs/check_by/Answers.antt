-- `checked::check_by` meets its contract.
-- Assumes nothing.
use Rattle.std.proofs.lemmas.Result.{err_from_is_err_and}
use Rattle.checked.proofs.Checks.{check_ways}
use Rattle.checked.proofs.check_by.Goals as goal

pub returns-in_err-all : goal.returns-in_err-all
returns-in_err-all c = let w = c.in_err-all.was {u = tt} in let p = err_from_is_err_and c.from_residual.result c.from_residual.ensures.1 in rw (p.1, p.2) (search check_ways)

pub returns : goal.returns
returns c = let w = c.in_ok-all.was {u = tt} in search check_ways
