-- `plain_leaf::word::ends` meets its contract.
-- Assumes nothing.
use borrow.Author.Tests.{le-leb}
use Rattle.plain_leaf.proofs.WordCode.{ends-text, ends_at}
use Rattle.plain_leaf.proofs.word.ends.Goals as goal

pub returns-then-text-at : goal.returns-then-text-at
returns-then-text-at c = rw (le-leb _ _ c.if-text-at.true) (ends-text c.requires c.if-text-at.true)

pub returns-else-text-at : goal.returns-else-text-at
returns-else-text-at c = search ends_at
