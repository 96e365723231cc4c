-- `looking::look_up` meets its contract.
-- Assumes nothing.
use Rattle.looking.proofs.Parts.{look_ordered, look_taken}
use Rattle.looking.proofs.look_up.Goals as goal

pub part_of-requires : goal.part_of-requires
part_of-requires c = search look_ordered

pub returns : goal.returns
returns c = search look_taken
