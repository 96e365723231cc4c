-- `printing::whole` meets its contract.
-- Assumes nothing.
use Rattle.std.proofs.lemmas.Result.{err_from_is_err_and}
use Rattle.printing.proofs.Laid.{whole_ways}
use Rattle.printing.proofs.whole.Goals as goal

pub returns-in_err-walk_all : goal.returns-in_err-walk_all
returns-in_err-walk_all c = let w = c.in_err-walk_all.was {u = tt} in let p = err_from_is_err_and c.from_residual.result c.from_residual.ensures.1 in rw (p.1, p.2) (search whole_ways)

pub returns : goal.returns
returns c = let w = c.in_ok-walk_all.was {u = tt} in search whole_ways
