-- `closing::ended` meets its contract.
-- Assumes nothing.
use Rattle.closing.proofs.Closers.{ended_ways}
use Rattle.closing.proofs.ended.Goals as goal

pub returns-then-found : goal.returns-then-found
returns-then-found c = search ended_ways

pub returns : goal.returns
returns c = search ended_ways
