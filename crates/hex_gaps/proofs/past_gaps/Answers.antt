-- `hex_gaps::past_gaps` meets its contract.
-- Assumes nothing.
use Rattle.hex_gaps.proofs.BlankCode.{gaps_start, gaps_on, gaps_stop, gaps_end}
use Rattle.hex_gaps.proofs.past_gaps.Goals as goal

pub loop-at-init : goal.loop-at-init
loop-at-init c = search gaps_start

pub returns-then-next-at : goal.returns-then-next-at
returns-then-next-at c = search gaps_stop

pub loop-at-preserved : goal.loop-at-preserved
loop-at-preserved c = search gaps_on

pub returns : goal.returns
returns c = search gaps_end
