-- `looking::part_by_steps` meets its contract.
-- Assumes nothing.
use Rattle.std.proofs.lemmas.Result.{err_from_is_err_and}
use Rattle.looking.proofs.Parts.{check_refused_lem, check_accepted}
use Rattle.looking.proofs.part_by_steps.Goals as goal

pub part_in-requires : goal.part_in-requires
part_in-requires c = let w = c.in_ok-checked_all.was {u = tt} in search check_accepted

pub returns-in_err-checked_all : goal.returns-in_err-checked_all
returns-in_err-checked_all c = let w = c.in_err-checked_all.was {u = tt} in let p = err_from_is_err_and c.from_residual.result c.from_residual.ensures.1 in rw (p.1, p.2) (search check_refused_lem)
