-- `walk_answer::after` meets its contract.
-- Assumes nothing.
use Rattle.walk_answer.proofs.AnswerCode.{after_ways}
use Rattle.walk_answer.proofs.after.Goals as goal

pub returns-in-Ok : goal.returns-in-Ok
returns-in-Ok c = search after_ways

pub returns-in-Err : goal.returns-in-Err
returns-in-Err c = search after_ways
