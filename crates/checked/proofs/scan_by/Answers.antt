-- `checked::scan_by` meets its contract.
-- Assumes nothing.
use Rattle.std.proofs.lemmas.Result.{err_from_is_err_and}
use Rattle.checked.proofs.Checks.{scan_ways}
use Rattle.checked.proofs.scan_by.Goals as goal

pub returns-in_err-m : goal.returns-in_err-m
returns-in_err-m c = let w = c.in_err-m.was {u = tt} in let p = err_from_is_err_and c.from_residual.result c.from_residual.ensures.1 in rw (p.1, p.2) (search scan_ways)

pub returns : goal.returns
returns c = let w = c.in_ok-m.was {u = tt} in search scan_ways
