-- `plain_leaf::word::ends_word` meets its contract.
-- Assumes nothing.
use native.Mathlib.Omega.{arith}
use borrow.Author.Rules.{rules}
use Rattle.plain_leaf.proofs.WordCode.{ends_low, ends_sign}
use Rattle.plain_leaf.proofs.word.ends_word.Goals as goal

pub returns-in-0-to-47 : goal.returns-in-0-to-47
returns-in-0-to-47 c = ends_sign (search rules)

pub returns-in-0-to-47-2 : goal.returns-in-0-to-47-2
returns-in-0-to-47-2 c = ends_low (omega arith) c.if-b-ne39.true
