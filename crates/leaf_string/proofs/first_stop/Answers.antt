use Rattle.leaf_string.proofs.StringCode.{stops-start, stops-on, stops_end}
use Rattle.leaf_string.proofs.first_stop.Goals as goal

pub loop-i-init : goal.loop-i-init
loop-i-init c = search stops-start

pub loop-i-preserved : goal.loop-i-preserved
loop-i-preserved c = search stops-on

pub returns : goal.returns
returns c = search stops_end
