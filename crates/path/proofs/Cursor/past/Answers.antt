-- `path::Cursor::past` meets its contract.
-- Assumes nothing.
use Rattle.path.proofs.Stepping.{past_ways}
use Rattle.path.proofs.Cursor.past.Goals as goal

pub returns-in-Err : goal.returns-in-Err
returns-in-Err c = search past_ways

pub returns-in-Ok : goal.returns-in-Ok
returns-in-Ok c = search past_ways
