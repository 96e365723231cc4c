-- `words::after_minus` meets its contract.
-- Assumes nothing.
use Rattle.words.proofs.WordCode.{minus_ways, stood_digit}
use Rattle.words.proofs.after_minus.Goals as goal

pub number-requires : goal.number-requires
number-requires c = search stood_digit

pub returns-then-k-eq-DIGIT : goal.returns-then-k-eq-DIGIT
returns-then-k-eq-DIGIT c = search minus_ways

pub returns-then-starts_with : goal.returns-then-starts_with
returns-then-starts_with c = search minus_ways

pub returns : goal.returns
returns c = search minus_ways
