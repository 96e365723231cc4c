-- `string_reader::fill` meets its contract.
-- Assumes nothing.
use Rattle.encoding.proofs.ReadWriting.{fill_ways}
use Rattle.string_reader.proofs.fill.Goals as goal

pub returns-in-0 : goal.returns-in-0
returns-in-0 c = search fill_ways

pub returns-in-1 : goal.returns-in-1
returns-in-1 c = search fill_ways

pub returns-in-2 : goal.returns-in-2
returns-in-2 c = search fill_ways

pub returns-in_default : goal.returns-in_default
returns-in_default c = search fill_ways
