-- `hex_weight::pair` meets its contract.
-- Assumes nothing.
use Rattle.hex_weight.proofs.WeightCode.{weighed_start, weighed_on, weighed_end}
use Rattle.hex_weight.proofs.pair.Goals as goal

pub loop-k-init : goal.loop-k-init
loop-k-init c = search weighed_start

pub loop-k-preserved : goal.loop-k-preserved
loop-k-preserved c = search weighed_on

pub returns : goal.returns
returns c = search weighed_end
