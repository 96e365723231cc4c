-- `refusal::kind_of` meets its contract.
-- Assumes nothing.
use Rattle.refusal.specs.RefusalKinds.{kind_number}
use Rattle.refusal.proofs.KindCode.{kinded_ways}
use Rattle.refusal.proofs.kind_of.Goals as goal

pub returns-in-1 : goal.returns-in-1
unfolding kind_number
returns-in-1 c = search kinded_ways

pub returns-in-2 : goal.returns-in-2
unfolding kind_number
returns-in-2 c = search kinded_ways

pub returns-in-3 : goal.returns-in-3
unfolding kind_number
returns-in-3 c = search kinded_ways

pub returns-in-4 : goal.returns-in-4
unfolding kind_number
returns-in-4 c = search kinded_ways

pub returns-in-5 : goal.returns-in-5
unfolding kind_number
returns-in-5 c = search kinded_ways

pub returns-in-6 : goal.returns-in-6
unfolding kind_number
returns-in-6 c = search kinded_ways

pub returns-in-7 : goal.returns-in-7
unfolding kind_number
returns-in-7 c = search kinded_ways

pub returns-in-8 : goal.returns-in-8
unfolding kind_number
returns-in-8 c = search kinded_ways

pub returns-in-9 : goal.returns-in-9
unfolding kind_number
returns-in-9 c = search kinded_ways

pub returns-in-10 : goal.returns-in-10
unfolding kind_number
returns-in-10 c = search kinded_ways

pub returns-in-11 : goal.returns-in-11
unfolding kind_number
returns-in-11 c = search kinded_ways

pub returns-in-12 : goal.returns-in-12
unfolding kind_number
returns-in-12 c = search kinded_ways

pub returns-in-13 : goal.returns-in-13
unfolding kind_number
returns-in-13 c = search kinded_ways

pub returns-in-14 : goal.returns-in-14
unfolding kind_number
returns-in-14 c = search kinded_ways

pub returns-in-15 : goal.returns-in-15
unfolding kind_number
returns-in-15 c = search kinded_ways

pub returns-in-16 : goal.returns-in-16
unfolding kind_number
returns-in-16 c = search kinded_ways

pub returns-in_default : goal.returns-in_default
unfolding kind_number
returns-in_default c = search kinded_ways depth 20
