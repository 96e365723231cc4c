-- `closing::first` meets its contract.
-- Assumes nothing.
use Rattle.closing.proofs.Closers.{skip-inside, first_ways}
use Rattle.closing.proofs.first.Goals as goal

pub returns-then-starts_at_once : goal.returns-then-starts_at_once
returns-then-starts_at_once c = search first_ways

pub closes-requires : goal.closes-requires
closes-requires c = search skip-inside

pub returns-then-may_be_empty : goal.returns-then-may_be_empty
returns-then-may_be_empty c = search first_ways

pub returns : goal.returns
returns c = search first_ways
