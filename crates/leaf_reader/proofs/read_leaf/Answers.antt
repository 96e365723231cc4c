-- `leaf_reader::read_leaf` meets its contract.
-- Assumes nothing.
use Rattle.leaf_reader.proofs.StartCode.{hex-at}
use Rattle.leaf_reader.proofs.read_leaf.Goals as goal

pub hexadecimal-requires : goal.hexadecimal-requires
hexadecimal-requires c = search hex-at
