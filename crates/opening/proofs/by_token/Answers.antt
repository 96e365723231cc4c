-- `opening::by_token` meets its contract.
-- Assumes nothing.
use Rattle.opening.proofs.Openers.{token_ways}
use Rattle.opening.proofs.by_token.Goals as goal

pub returns-in-6 : goal.returns-in-6
returns-in-6 c = search token_ways

pub returns-in-15 : goal.returns-in-15
returns-in-15 c = search token_ways

pub returns-in-17 : goal.returns-in-17
returns-in-17 c = search token_ways

pub returns-in-19 : goal.returns-in-19
returns-in-19 c = search token_ways

pub returns-in_default : goal.returns-in_default
returns-in_default c = search token_ways
