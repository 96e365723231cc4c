-- `encoding::heads::head_size` meets its contract.
-- Assumes nothing.
use Rattle.encoding.proofs.ReadSmall.{size_fits, size_is}
use Rattle.encoding.proofs.heads.head_size.Goals as goal

pub overflow_add-result : goal.overflow_add-result
overflow_add-result c = search size_fits

pub returns : goal.returns
returns c = search size_is
