-- `base64_word::put_fours` meets its contract.
-- Assumes nothing.
use Rattle.base64_word.proofs.WordCode.{fours_start, fours_on}
use Rattle.base64_word.proofs.put_fours.Goals as goal

pub loop-at-init : goal.loop-at-init
loop-at-init c = search fours_start

pub loop-at-preserved : goal.loop-at-preserved
loop-at-preserved c = search fours_on
