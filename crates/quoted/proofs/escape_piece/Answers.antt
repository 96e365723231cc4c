-- `quoted::escape_piece` meets its contract.
-- Assumes nothing.
use native.Mathlib.Omega.{arith}
use Rattle.quoted.proofs.QuotedPieces.{quote_pieced, escape_not_pieced, escape_pieced}
use Rattle.quoted.proofs.escape_piece.Goals as goal

pub returns-then-next_is : goal.returns-then-next_is
returns-then-next_is c = search quote_pieced

pub returns-in_err-e : goal.returns-in_err-e
returns-in_err-e c = rw c.from_residual.ensures (escape_not_pieced c.requires c.next_is.ensures c.if-next_is.false (omega arith) c.in_err-e.ensures)

pub returns : goal.returns
returns c = escape_pieced c.requires c.next_is.ensures c.if-next_is.false (omega arith) c.in_ok-e.ensures c.put_point.ensures c.point_size.ensures
