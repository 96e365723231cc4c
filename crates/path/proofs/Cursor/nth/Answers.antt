-- `path::Cursor::nth` meets its contract.
-- Assumes nothing.
use Rattle.path.proofs.Stepping.{nth_ways}
use Rattle.path.proofs.Cursor.nth.Goals as goal

pub returns-then-is_over : goal.returns-then-is_over
returns-then-is_over c = let w = c.in_ok-c.was {u = tt} in search nth_ways

pub returns-in_err-c : goal.returns-in_err-c
returns-in_err-c c = let w = c.in_err-c.was {u = tt} in rw c.from_residual.ensures (search nth_ways)

pub returns : goal.returns
returns c = let w = c.in_ok-c.was {u = tt} in search nth_ways
