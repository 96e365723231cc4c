-- `walk_answer::refuse` meets its contract.
-- Assumes nothing.
use Rattle.walk_answer.proofs.AnswerCode.{told-refused}
use Rattle.walk_answer.proofs.refuse.Goals as goal

pub returns : goal.returns
returns c = search told-refused
