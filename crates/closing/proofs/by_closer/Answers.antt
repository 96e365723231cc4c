-- `closing::by_closer` meets its contract.
-- Assumes nothing.
use Rattle.closing.proofs.Closers.{closes_ways}
use Rattle.closing.proofs.by_closer.Goals as goal

pub returns-in-Square : goal.returns-in-Square
returns-in-Square c = search closes_ways

pub returns-in-Curly : goal.returns-in-Curly
returns-in-Curly c = search closes_ways

pub returns-in-Round : goal.returns-in-Round
returns-in-Round c = search closes_ways

pub returns-in-Angle : goal.returns-in-Angle
returns-in-Angle c = search closes_ways

pub returns-in-Whole : goal.returns-in-Whole
returns-in-Whole c = search closes_ways

pub returns-in-Nothing : goal.returns-in-Nothing
returns-in-Nothing c = search closes_ways
