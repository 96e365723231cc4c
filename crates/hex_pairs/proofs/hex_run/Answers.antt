-- `hex_pairs::hex_run` meets its contract.
-- Assumes nothing.
use Rattle.hex_pairs.proofs.PairsCode.{run_on}
use Rattle.hex_pairs.proofs.hex_run.Goals as goal

pub loop-at-preserved : goal.loop-at-preserved
loop-at-preserved c = search run_on
