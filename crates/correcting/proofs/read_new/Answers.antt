-- `correcting::read_new` meets its contract.
-- Assumes nothing.
use Rattle.std.proofs.lemmas.Result.{err_from_is_err_and}
use borrow.Author.Rules.{rules}
use Rattle.correcting.proofs.Deciding.{new_short, new_ways}
use Rattle.correcting.proofs.read_new.Goals as goal

pub read_one-requires : goal.read_one-requires
read_one-requires c = let w = c.in_ok-check_text.was {u = tt} in search (rules, new_short)

pub returns-in_err-check_text : goal.returns-in_err-check_text
returns-in_err-check_text c = let w = c.in_err-check_text.was {u = tt} in let p = err_from_is_err_and c.from_residual.result c.from_residual.ensures.1 in rw (p.1, p.2) (search new_ways)

pub returns : goal.returns
returns c = let w = c.in_ok-check_text.was {u = tt} in search new_ways
