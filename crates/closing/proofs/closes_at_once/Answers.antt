use Rattle.closing.proofs.Closers.{closes_once_ways}
use Rattle.closing.proofs.closes_at_once.Goals as goal

pub returns-then-key : goal.returns-then-key
returns-then-key c = search closes_once_ways

pub returns-then-has_sign : goal.returns-then-has_sign
returns-then-has_sign c = search closes_once_ways

pub returns : goal.returns
returns c = search closes_once_ways
