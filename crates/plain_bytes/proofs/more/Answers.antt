-- `plain_bytes::more` meets its contract.
-- Assumes nothing.
use Rattle.plain_bytes.proofs.PlainRuns.{more-is, more-fits, below-fits}
use Rattle.plain_bytes.proofs.more.Goals as goal

pub overflow_add-result : goal.overflow_add-result
overflow_add-result c = search below-fits

pub overflow_add-result-2 : goal.overflow_add-result-2
overflow_add-result-2 c = search more-fits

pub returns : goal.returns
returns c = search more-is
