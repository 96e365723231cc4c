-- `path::items_before` meets its contract.
-- Assumes nothing.
use Rattle.path.proofs.Stepping.{before_ways}
use Rattle.path.proofs.items_before.Goals as goal

pub returns-then-pairs : goal.returns-then-pairs
returns-then-pairs c = search before_ways

pub returns : goal.returns
returns c = search before_ways
