-- `leaf_reader::start_of` meets its contract.
-- Assumes nothing.
use Rattle.leaf_reader.proofs.StartCode.{starts-quoted}
use Rattle.leaf_reader.proofs.start_of.Goals as goal

pub returns-in-34 : goal.returns-in-34
returns-in-34 c = starts-quoted c.in-34.is
