-- `typed_array::element_size` meets its contract.
-- Assumes nothing.
use Rattle.typed_array.proofs.TypedCode.{element_ways}
use Rattle.typed_array.proofs.element_size.Goals as goal

pub returns-in-0 : goal.returns-in-0
returns-in-0 c = search element_ways

pub returns-in-1 : goal.returns-in-1
returns-in-1 c = search element_ways

pub returns-in-2 : goal.returns-in-2
returns-in-2 c = search element_ways

pub returns-in-3 : goal.returns-in-3
returns-in-3 c = search element_ways

pub returns-in_default : goal.returns-in_default
returns-in_default c = search element_ways
