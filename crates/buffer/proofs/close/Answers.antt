-- `buffer::close` meets its contract.
-- Assumes nothing.
use Rattle.buffer.proofs.EmitCode.{close_count, close_place, close_not, close_done}
use Rattle.buffer.proofs.close.Goals as goal

pub overflow_add-by : goal.overflow_add-by
overflow_add-by c = search close_count

pub returns-then-not-fits : goal.returns-then-not-fits
returns-then-not-fits c = search close_not

pub overflow_add-from : goal.overflow_add-from
overflow_add-from c = search close_place

pub returns : goal.returns
returns c = search close_done
