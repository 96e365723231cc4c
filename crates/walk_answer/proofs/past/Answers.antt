-- `walk_answer::past` meets its contract.
-- Assumes nothing.
use Rattle.walk_answer.proofs.Turns.{past_ways}
use Rattle.walk_answer.proofs.past.Goals as goal

pub returns-in-Broken : goal.returns-in-Broken
returns-in-Broken g c = rw (← c.into_mode.ensures) (search past_ways)

pub returns-in_default : goal.returns-in_default
returns-in_default g c = rw (← c.into_mode.ensures) (search past_ways)
