-- `hex_output::hex_pairs` meets its contract.
-- Assumes nothing.
use Rattle.hex_output.proofs.HexCode.{pairs_start, pairs-on, pairs_end}
use Rattle.hex_output.proofs.hex_pairs.Goals as goal

pub loop-i-init : goal.loop-i-init
loop-i-init c = search pairs_start

pub loop-i-preserved : goal.loop-i-preserved
loop-i-preserved c = search pairs-on

pub returns : goal.returns
returns c = search pairs_end
