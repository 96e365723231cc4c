-- `walk_answer::is_over` meets its contract.
-- Assumes nothing.
use Rattle.walk_answer.proofs.Turns.{over_ways}
use Rattle.walk_answer.proofs.is_over.Goals as goal

pub returns-then-bytes-at : goal.returns-then-bytes-at
returns-then-bytes-at g c = rw (← c.into_mode.ensures) (search over_ways)

pub returns-in-Counted : goal.returns-in-Counted
returns-in-Counted g c = rw (← c.into_mode.ensures) (search over_ways)

pub returns-else-bytes-at : goal.returns-else-bytes-at
returns-else-bytes-at g c = rw (← c.into_mode.ensures) (search over_ways)

pub returns-in-Ended : goal.returns-in-Ended
returns-in-Ended g c = rw (← c.into_mode.ensures) (search over_ways)
