-- `quoted::plain_piece` meets its contract.
-- Assumes nothing.
use Rattle.quoted.proofs.QuotedPieces.{plain_pieced}
use Rattle.quoted.proofs.plain_piece.Goals as goal

pub returns : goal.returns
returns c = search plain_pieced
