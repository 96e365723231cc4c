-- `closing::end` meets its contract.
-- Assumes nothing.
use Rattle.closing.proofs.Closers.{end_on, end-here}
use Rattle.closing.proofs.end.Goals as goal

pub returns-then-at-text : goal.returns-then-at-text
returns-then-at-text c = search end_on

pub returns : goal.returns
returns c = search end-here
