-- `checking::scan` meets its contract.
-- Assumes nothing.
use Rattle.std.proofs.lemmas.Result.{err_from_is_err_and}
use Rattle.checking.proofs.Scans.{scan_room, scan_ways}
use Rattle.checking.proofs.scan.Goals as goal

pub slice_bounds-item-count : goal.slice_bounds-item-count
slice_bounds-item-count c = let w = c.in_ok-h.was {u = tt} in search scan_room

pub slice_bounds-item-start : goal.slice_bounds-item-start
slice_bounds-item-start c = let w = c.in_ok-h.was {u = tt} in search scan_room

pub returns-in_err-h : goal.returns-in_err-h
returns-in_err-h c = let w = c.in_err-h.was {u = tt} in let p = err_from_is_err_and c.from_residual.result c.from_residual.ensures.1 in rw (p.1, p.2) (search scan_ways)

pub returns : goal.returns
returns c = let w = c.in_ok-h.was {u = tt} in search scan_ways
