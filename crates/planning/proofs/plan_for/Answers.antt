-- `planning::plan_for` meets its contract.
-- Assumes nothing.
use Rattle.planning.proofs.Planning.{plan_ways}
use Rattle.planning.proofs.plan_for.Goals as goal

pub returns-then-size-gt-MOST_BYTES : goal.returns-then-size-gt-MOST_BYTES
returns-then-size-gt-MOST_BYTES c = search plan_ways

pub returns-then-fits : goal.returns-then-fits
returns-then-fits c = search plan_ways

pub returns : goal.returns
returns c = search plan_ways
