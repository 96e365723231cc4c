-- `correcting::decide` meets its contract.
-- Assumes nothing.
use Rattle.std.proofs.lemmas.Result.{err_from_is_err_and}
use borrow.Author.Rules.{rules}
use lib.Seq.{length-take-le}
use Rattle.correcting.proofs.Deciding.{decide_inside, decide_bounded, decide_ways}
use Rattle.correcting.proofs.decide.Goals as goal

pub slice_bounds-spot-end : goal.slice_bounds-spot-end
slice_bounds-spot-end c = search (rules, length-take-le, decide_inside)

pub replace-requires : goal.replace-requires
replace-requires c = let w = c.in_ok-p.was {u = tt} in search (rules, decide_bounded)

pub returns-in_err-p : goal.returns-in_err-p
returns-in_err-p c = let w = c.in_err-p.was {u = tt} in let p = err_from_is_err_and c.from_residual.result c.from_residual.ensures.1 in rw (p.1, p.2) (search decide_ways)

pub returns-then-fits : goal.returns-then-fits
returns-then-fits c = let w = c.in_ok-p.was {u = tt} in search decide_ways

pub returns : goal.returns
returns c = search decide_ways
