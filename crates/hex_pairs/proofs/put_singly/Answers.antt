-- `hex_pairs::put_singly` meets its contract.
-- Assumes nothing.
use Rattle.hex_pairs.proofs.PairsCode.{singly_start, pairs-on, singly_end, pair-digits}
use Rattle.hex_pairs.proofs.put_singly.Goals as goal

pub loop-i-init : goal.loop-i-init
loop-i-init c = search singly_start

pub put_pair-p-requires : goal.put_pair-p-requires
put_pair-p-requires c = search pair-digits

pub loop-i-preserved : goal.loop-i-preserved
loop-i-preserved c = search pairs-on

pub returns : goal.returns
returns c = search singly_end
