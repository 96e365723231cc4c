-- `encoding::answer::stray_number` meets its contract.
-- Assumes nothing.
use Rattle.encoding.proofs.ReadSmall.{stray_ways}
use Rattle.encoding.proofs.answer.stray_number.Goals as goal

pub returns-then-kind-eq-NO_TOKEN : goal.returns-then-kind-eq-NO_TOKEN
returns-then-kind-eq-NO_TOKEN c = search stray_ways

pub returns-in-1 : goal.returns-in-1
returns-in-1 c = search stray_ways

pub returns-in-2 : goal.returns-in-2
returns-in-2 c = search stray_ways

pub returns-in_default : goal.returns-in_default
returns-in_default c = search stray_ways

pub returns-in-6 : goal.returns-in-6
returns-in-6 c = search stray_ways

pub returns-in-15 : goal.returns-in-15
returns-in-15 c = search stray_ways

pub returns-in-17 : goal.returns-in-17
returns-in-17 c = search stray_ways

pub returns-in-19 : goal.returns-in-19
returns-in-19 c = search stray_ways

pub returns-in_default-kind : goal.returns-in_default-kind
returns-in_default-kind c = search stray_ways

pub returns : goal.returns
returns c = search stray_ways
