-- `walk_parts::headless` meets its contract.
-- Assumes nothing.
use Rattle.std.proofs.lemmas.Result.{err_from_is_err_and}
use Rattle.walk_parts.proofs.WalkItems.{headless_ways}
use Rattle.walk_parts.proofs.headless.Goals as goal

pub returns-in_err-h : goal.returns-in_err-h
returns-in_err-h c = let w = c.in_err-h.was {u = tt} in let p = err_from_is_err_and c.from_residual.result c.from_residual.ensures.1 in rw (p.1, p.2) (search headless_ways)

pub returns : goal.returns
returns c = let w = c.in_ok-h.was {u = tt} in search headless_ways
