use borrow.Author.Rules.{rules}
use Rattle.closing.proofs.Closers.{open_ways}
use Rattle.closing.proofs.is_open.Goals as goal

pub returns-then-text-at : goal.returns-then-text-at
returns-then-text-at c = search (open_ways, rules)

pub returns : goal.returns
returns c = search (open_ways, rules)
