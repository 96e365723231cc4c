-- `hex_body::put_close` meets its contract.
-- Assumes nothing.
use Rattle.literal_body.proofs.ReadingCode.{progress_start}
use Rattle.hex_body.proofs.HexCode.{close_on, close_gap}
use Rattle.hex_body.proofs.put_close.Goals as goal

pub loop-at-init : goal.loop-at-init
loop-at-init c = search progress_start

pub loop-at-preserved-then-w-lt-NO_PAIR : goal.loop-at-preserved-then-w-lt-NO_PAIR
loop-at-preserved-then-w-lt-NO_PAIR c = search close_on

pub loop-at-preserved : goal.loop-at-preserved
loop-at-preserved c = search close_gap
