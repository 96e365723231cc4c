-- `planning::level` meets its contract.
-- Assumes nothing.
use Rattle.planning.proofs.Planning.{level_ways}
use Rattle.planning.proofs.level.Goals as goal

pub returns-then-steps-le1 : goal.returns-then-steps-le1
returns-then-steps-le1 c = search level_ways

pub returns-then-steps-gt-DEEPEST : goal.returns-then-steps-gt-DEEPEST
returns-then-steps-gt-DEEPEST c = search level_ways

pub returns : goal.returns
returns c = search level_ways
