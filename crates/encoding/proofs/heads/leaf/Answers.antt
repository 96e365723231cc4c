-- `encoding::heads::leaf` meets its contract.
-- Assumes nothing.
use Rattle.encoding.proofs.ReadWriting.{leafed_is}
use Rattle.encoding.proofs.heads.leaf.Goals as goal

pub returns : goal.returns
returns c = search leafed_is
