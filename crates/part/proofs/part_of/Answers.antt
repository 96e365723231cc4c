-- `part::part_of` meets its contract.
-- Assumes nothing.
use borrow.Author.Rules.{rules}
use Rattle.part.proofs.Taking.{take-inside, take-order, take_ways}
use Rattle.part.proofs.part_of.Goals as goal

pub slice_bounds-result-count-in-Ok : goal.slice_bounds-result-count-in-Ok
slice_bounds-result-count-in-Ok c = search (rules, take-order)

pub slice_bounds-result-start-in-Ok : goal.slice_bounds-result-start-in-Ok
slice_bounds-result-start-in-Ok c = search (rules, take-order)

pub slice_bounds-result-end-in-Ok : goal.slice_bounds-result-end-in-Ok
slice_bounds-result-end-in-Ok c = search (rules, take-inside)

pub returns-in-Err : goal.returns-in-Err
returns-in-Err c = search take_ways

pub returns-in-Ok : goal.returns-in-Ok
returns-in-Ok c = search take_ways
