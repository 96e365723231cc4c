-- `words::prefix_word` meets its contract.
-- Assumes nothing.
use Rattle.words.proofs.WordCode.{prefix_ways}
use Rattle.words.proofs.prefix_word.Goals as goal

pub returns-then-is_same : goal.returns-then-is_same
returns-then-is_same c = search prefix_ways

pub returns-then-is_same-2 : goal.returns-then-is_same-2
returns-then-is_same-2 c = search prefix_ways

pub returns : goal.returns
returns c = search prefix_ways
