-- `correcting::with_large` meets its contract, in both of its turns.
-- Assumes nothing.
use native.Mathlib.Omega.{arith}
use borrow.Author.Rules.{rules}
use Rattle.correcting.proofs.+with_large.Goals as goal

pub with_large-requires : goal.with_large-requires
with_large-requires t c = (omega arith, search rules)
