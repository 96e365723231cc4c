-- `looking::checked_all` meets its contract.
-- Assumes nothing.
use borrow.Author.Rules.{rules}
use Rattle.walk_answer.proofs.Slices.{bytes_of}
use Rattle.looking.proofs.checked_all.Goals as goal

pub returns : goal.returns
returns c = record { is = search rules; bytes = bytes_of _ c.shared_slice_known-1.given }
