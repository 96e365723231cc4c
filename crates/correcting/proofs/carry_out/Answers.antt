-- `correcting::carry_out` meets its contract.
-- Assumes nothing.
use Rattle.std.proofs.lemmas.Result.{err_from_is_err_and}
use borrow.Author.Rules.{rules}
use Rattle.correcting.proofs.Deciding.{carry_plans, carry_ways}
use Rattle.correcting.proofs.carry_out.Goals as goal

pub put-requires : goal.put-requires
put-requires c = let w = c.in_ok-p.was {u = tt} in search (rules, carry_plans)

pub returns-in_err-p : goal.returns-in_err-p
returns-in_err-p c = let w = c.in_err-p.was {u = tt} in let p = err_from_is_err_and c.from_residual.result c.from_residual.ensures.1 in rw (p.1, p.2) (search carry_ways)

pub returns : goal.returns
returns c = let w = c.in_ok-p.was {u = tt} in search carry_ways
