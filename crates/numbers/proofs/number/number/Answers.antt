-- `numbers::number::number` meets its contract.
-- Assumes nothing.
use borrow.Author.Rules.{rules}
use Rattle.numbers.proofs.NumberCode.{number-float, number_plain, number-based, number-scans, leading_inside, based-prefixed}
use Rattle.numbers.proofs.number.number.Goals as goal

pub count_digits-d-requires : goal.count_digits-d-requires
count_digits-d-requires c = search number-scans

pub returns-then-floats : goal.returns-then-floats
returns-then-floats c = search number-float

pub decimal-requires : goal.decimal-requires
decimal-requires c = search leading_inside

pub returns-then-radix-eq-NO_RADIX : goal.returns-then-radix-eq-NO_RADIX
returns-then-radix-eq-NO_RADIX c = search (number_plain, c.count_digits-d.ensures, c.digit_value.ensures, c.requires)

pub based-requires : goal.based-requires
based-requires c = search (based-prefixed, rules)

pub returns : goal.returns
returns c = search number-based
