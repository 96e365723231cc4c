-- `closers::counted` meets its contract.
-- Assumes nothing.
use borrow.Author.Rules.{rules}
use Rattle.closers.specs.CloserTables.{counted}
use Rattle.closers.proofs.counted.Goals as goal

pub returns-then-key : goal.returns-then-key
unfolding counted
returns-then-key c = search rules

pub returns : goal.returns
unfolding counted
returns c = search rules
