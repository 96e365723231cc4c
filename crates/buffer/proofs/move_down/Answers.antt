-- `buffer::move_down` meets its contract.
-- Assumes nothing.
use Rattle.buffer.proofs.EmitCode.{lower_ways}
use Rattle.buffer.proofs.move_down.Goals as goal

pub returns-then-fits : goal.returns-then-fits
returns-then-fits c = search lower_ways

pub returns-else-fits : goal.returns-else-fits
returns-else-fits c = search lower_ways
