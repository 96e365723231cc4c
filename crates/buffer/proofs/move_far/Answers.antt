-- `buffer::move_far` meets its contract.
-- Assumes nothing.
use Rattle.buffer.proofs.EmitCode.{raise_start, raise_step, raise_ways}
use Rattle.buffer.proofs.move_far.Goals as goal

pub returns-then-not-fits : goal.returns-then-not-fits
returns-then-not-fits c = search raise_ways

pub loop-i-init : goal.loop-i-init
loop-i-init c = search raise_start

pub loop-i-preserved : goal.loop-i-preserved
loop-i-preserved c = search raise_step

pub returns : goal.returns
returns c = search raise_ways
