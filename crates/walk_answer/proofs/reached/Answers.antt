-- `walk_answer::reached` meets its contract.
-- Assumes nothing.
use Rattle.walk_answer.proofs.AnswerCode.{told-span}
use Rattle.walk_answer.proofs.reached.Goals as goal

pub returns : goal.returns
returns c = search told-span
