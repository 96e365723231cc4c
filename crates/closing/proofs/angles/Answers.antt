-- `closing::angles` meets its contract.
-- Assumes nothing.
use Rattle.closing.proofs.Closers.{angles_behind, angles_ways}
use Rattle.closing.proofs.angles.Goals as goal

pub indicator_at-m-requires : goal.indicator_at-m-requires
indicator_at-m-requires c = search angles_behind

pub returns-then-next_is-2 : goal.returns-then-next_is-2
returns-then-next_is-2 c = search angles_ways

pub returns-then-next_is : goal.returns-then-next_is
returns-then-next_is c = search angles_ways

pub returns : goal.returns
returns c = search angles_ways
