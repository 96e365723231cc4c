-- `quoted::piece` meets its contract.
-- Assumes nothing.
use native.Mathlib.Omega.{arith}
use Rattle.quoted.proofs.QuotedPieces.{piece_control}
use Rattle.quoted.proofs.piece.Goals as goal

pub returns-in-0-to-31 : goal.returns-in-0-to-31
returns-in-0-to-31 c = piece_control c.requires (λ e. omega arith) (omega arith)
