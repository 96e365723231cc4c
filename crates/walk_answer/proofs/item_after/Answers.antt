-- `walk_answer::item_after` meets its contract.
-- Assumes nothing.
use Rattle.walk_answer.proofs.AnswerCode.{item-after_ways}
use Rattle.walk_answer.proofs.item_after.Goals as goal

pub returns-in-Ok : goal.returns-in-Ok
returns-in-Ok c = search item-after_ways

pub returns-in-Err : goal.returns-in-Err
returns-in-Err c = search item-after_ways
