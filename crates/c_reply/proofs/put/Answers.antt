-- `c_reply::put` meets its contract.
-- Assumes nothing.
use borrow.Author.Rules.{rules}
use Rattle.c_reply.proofs.Replying.{set_past}
use Rattle.c_reply.proofs.put.Goals as goal

pub returns-else-i-value : goal.returns-else-i-value
returns-else-i-value c = search (rules, set_past)
