-- `quoted::put_part` meets its contract.
-- Assumes nothing.
use Rattle.quoted.proofs.QuotedPieces.{part_ways}
use Rattle.quoted.proofs.put_part.Goals as goal

pub returns : goal.returns
returns c = search part_ways
