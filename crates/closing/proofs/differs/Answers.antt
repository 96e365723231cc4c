use borrow.Author.Rules.{rules}
use Rattle.closing.proofs.Closers.{differs_is}
use Rattle.closing.proofs.differs.Goals as goal

pub returns : goal.returns
returns c = search (differs_is, rules)
