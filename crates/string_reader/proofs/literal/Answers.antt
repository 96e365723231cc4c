-- `string_reader::literal` meets its contract.
-- Assumes nothing.
use Rattle.encoding.proofs.ReadWriting.{light_none, literal_ways}
use Rattle.string_reader.proofs.literal.Goals as goal

pub endless-requires : goal.endless-requires
endless-requires c = search light_none

pub returns-then-t-eq-INDEFINITE : goal.returns-then-t-eq-INDEFINITE
returns-then-t-eq-INDEFINITE c = search literal_ways

pub returns : goal.returns
returns c = search literal_ways
