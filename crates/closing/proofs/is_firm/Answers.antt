-- `closing::is_firm` meets its contract.
-- Assumes nothing.
use borrow.Author.Rules.{rules}
use Rattle.closing.proofs.Closers.{firm_ways}
use Rattle.closing.proofs.is_firm.Goals as goal

pub returns-then-b-le32 : goal.returns-then-b-le32
returns-then-b-le32 c = search (firm_ways, rules)

pub returns-in-35 : goal.returns-in-35
returns-in-35 c = search (firm_ways, rules)

pub returns-in-47 : goal.returns-in-47
returns-in-47 c = search (firm_ways, rules)

pub returns-in_default : goal.returns-in_default
returns-in_default c = search (firm_ways, rules)
