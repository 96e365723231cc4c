-- `encoding::answer::strayed` meets its contract.
-- Assumes nothing.
use Rattle.encoding.proofs.ReadSmall.{strayed-is}
use Rattle.encoding.proofs.answer.strayed.Goals as goal

pub returns : goal.returns
returns c = search strayed-is
