use borrow.Author.Rules.{rules}
use Rattle.closing.proofs.Closers.{once_ways}
use Rattle.closing.proofs.starts_at_once.Goals as goal

pub returns-then-text-at : goal.returns-then-text-at
returns-then-text-at c = search (once_ways, rules)

pub returns : goal.returns
returns c = search (once_ways, rules)
