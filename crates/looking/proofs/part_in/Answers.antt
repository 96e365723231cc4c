-- `looking::part_in` meets its contract.
-- Assumes nothing.
use Rattle.std.proofs.lemmas.Result.{err_from_is_err_and}
use Rattle.looking.proofs.Parts.{part_room, part_ways}
use Rattle.looking.proofs.part_in.Goals as goal

pub slice_bounds-item-count : goal.slice_bounds-item-count
slice_bounds-item-count c = search part_room

pub slice_bounds-item-start : goal.slice_bounds-item-start
slice_bounds-item-start c = search part_room

pub returns-in-Err : goal.returns-in-Err
returns-in-Err c = search part_ways

pub returns-in_err-whole-in-Ok : goal.returns-in_err-whole-in-Ok
returns-in_err-whole-in-Ok c = let w = c.in_err-whole-in-Ok.was {u = tt} in let p = err_from_is_err_and c.from_residual.result c.from_residual.ensures.1 in rw (p.1, p.2) (search part_ways)

pub returns-in_ok-whole-in-Ok : goal.returns-in_ok-whole-in-Ok
returns-in_ok-whole-in-Ok c = let w = c.in_ok-whole-in-Ok.was {u = tt} in search part_ways
