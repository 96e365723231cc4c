-- `correcting::spot` meets its contract.
-- Assumes nothing.
use borrow.Author.Rules.{rules}
use Rattle.walk_answer.proofs.Slices.{bytes_of}
use Rattle.correcting.proofs.spot.Goals as goal

pub returns : goal.returns
returns c = record { told = search rules; bytes = bytes_of _ c.shared_slice_known-1.given }
