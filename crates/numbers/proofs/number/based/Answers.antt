-- `numbers::number::based` meets its contract.
-- Assumes nothing.
use Rattle.numbers.proofs.NumberCode.{zero_ways, zero_index, zero-scans}
use Rattle.numbers.proofs.number.based.Goals as goal

pub bounds-text-at : goal.bounds-text-at
bounds-text-at c = search zero_index

pub count_digits-d-requires : goal.count_digits-d-requires
count_digits-d-requires c = search zero-scans

pub returns-then-floats : goal.returns-then-floats
returns-then-floats c = search zero_ways

pub returns : goal.returns
returns c = search zero_ways
