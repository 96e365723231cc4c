-- `encoding::answer::refuse` meets its contract.
-- Assumes nothing.
use Rattle.encoding.proofs.ReadSmall.{denies_is}
use Rattle.encoding.proofs.answer.refuse.Goals as goal

pub returns : goal.returns
returns c = search denies_is
