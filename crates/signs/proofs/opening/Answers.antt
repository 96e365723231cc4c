-- `signs::opening` meets its contract.
-- Assumes nothing.
use Rattle.signs.proofs.SignCode.{opens-bad, opens-good}
use Rattle.signs.proofs.opening.Goals as goal

pub returns-then-mark-eq-UNKNOWN : goal.returns-then-mark-eq-UNKNOWN
returns-then-mark-eq-UNKNOWN c = search opens-bad

pub returns : goal.returns
returns c = search opens-good
