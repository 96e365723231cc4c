-- `plain_leaf::word::word` meets its contract.
-- Assumes nothing.
use Rattle.plain_leaf.proofs.WordCode.{word-leaf}
use Rattle.plain_leaf.proofs.word.word.Goals as goal

pub returns-in-Some : goal.returns-in-Some
returns-in-Some c = let x = c.in-Some.ensures in let y = c.in-Some.w-is in word-leaf c.in-Some.ensures c.ends.ensures c.if-ends.true c.put.ensures c.leaf.ensures
