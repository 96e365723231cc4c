-- `words::value_word` meets its contract.
-- Assumes nothing.
use Rattle.words.proofs.WordCode.{value_ways}
use Rattle.words.proofs.value_word.Goals as goal

pub returns-then-is_same : goal.returns-then-is_same
returns-then-is_same c = search value_ways

pub returns-then-is_same-2 : goal.returns-then-is_same-2
returns-then-is_same-2 c = search value_ways

pub returns-then-is_same-3 : goal.returns-then-is_same-3
returns-then-is_same-3 c = search value_ways

pub returns-then-is_same-4 : goal.returns-then-is_same-4
returns-then-is_same-4 c = search value_ways

pub returns-then-is_same-5 : goal.returns-then-is_same-5
returns-then-is_same-5 c = search value_ways

pub returns : goal.returns
returns c = search value_ways
