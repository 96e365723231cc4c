-- `buffer::zero` meets its contract.
-- Assumes nothing.
use Rattle.buffer.proofs.EmitCode.{zero_is, zero_not}
use Rattle.buffer.proofs.zero.Goals as goal

pub returns-then-fits : goal.returns-then-fits
returns-then-fits c = zero_is _ _ _ c.fits.ensures c.if-fits.true (c.fill.ensures.after (λ y e. e))

pub returns-else-fits : goal.returns-else-fits
returns-else-fits c = search zero_not
