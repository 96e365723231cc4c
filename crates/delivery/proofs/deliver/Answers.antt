-- `delivery::deliver` meets its contract.
-- Assumes nothing.
use Rattle.delivery.proofs.Delivering.{deliver_ways}
use Rattle.delivery.proofs.deliver.Goals as goal

pub returns-then-fits : goal.returns-then-fits
returns-then-fits c = search deliver_ways

pub returns : goal.returns
returns c = search deliver_ways
