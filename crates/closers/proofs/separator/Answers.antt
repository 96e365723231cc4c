use borrow.Author.Rules.{rules}
use Rattle.closers.specs.CloserTables.{separator_byte}
use Rattle.closers.proofs.separator.Goals as goal

pub returns-then-key : goal.returns-then-key
unfolding separator_byte
returns-then-key c = search rules

pub returns : goal.returns
unfolding separator_byte
returns c = search rules
