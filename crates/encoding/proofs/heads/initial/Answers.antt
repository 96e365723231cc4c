-- `encoding::heads::initial` meets its contract.
-- Assumes nothing.
use Rattle.encoding.proofs.ReadSmall.{initial_mul, initial_add, initial-is}
use Rattle.encoding.proofs.heads.initial.Goals as goal

pub overflow_mul-result : goal.overflow_mul-result
overflow_mul-result c = search initial_mul

pub overflow_add-result : goal.overflow_add-result
overflow_add-result c = search initial_add

pub returns : goal.returns
returns c = search initial-is
