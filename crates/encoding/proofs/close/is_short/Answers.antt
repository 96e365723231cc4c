-- `encoding::close::is_short` meets its contract.
-- Assumes nothing.
use Rattle.encoding.proofs.ReadSmall.{short_not}
use Rattle.encoding.proofs.close.is_short.Goals as goal

pub returns : goal.returns
returns c = search short_not
