-- `hex_pairs::values` meets its contract.
-- Assumes nothing.
use Rattle.hex_pairs.proofs.PairsCode.{values-on}
use Rattle.hex_pairs.proofs.values.Goals as goal

pub loop-i-preserved : goal.loop-i-preserved
loop-i-preserved c = search values-on
