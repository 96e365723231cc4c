-- `reading::encode_large` meets its contract, in both of its turns.
-- Assumes nothing.
use native.Mathlib.Omega.{arith}
use borrow.Author.Rules.{rules}
use Rattle.reading.proofs.+encode_large.Goals as goal

pub encode_large-requires : goal.encode_large-requires
encode_large-requires t c = (omega arith, search rules)
