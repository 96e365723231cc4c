-- `closing::separates` meets its contract.
-- Assumes nothing.
use Rattle.closing.proofs.Closers.{separates_ways}
use Rattle.closing.proofs.separates.Goals as goal

pub returns-then-next_is : goal.returns-then-next_is
returns-then-next_is c = search separates_ways

pub returns : goal.returns
returns c = search separates_ways
