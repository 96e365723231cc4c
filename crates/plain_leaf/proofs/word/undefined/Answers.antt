-- `plain_leaf::word::undefined` meets its contract.
-- Assumes nothing.
use Rattle.plain_leaf.proofs.WordCode.{word_undefined}
use Rattle.plain_leaf.proofs.word.undefined.Goals as goal

pub returns-then-next_is : goal.returns-then-next_is
returns-then-next_is c = search word_undefined
