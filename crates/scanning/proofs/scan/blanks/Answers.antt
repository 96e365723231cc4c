-- `scanning::scan::blanks` meets its contract.
-- Assumes nothing.
use Rattle.scanning.proofs.ScanCode.{blanks_on}
use Rattle.scanning.proofs.scan.blanks.Goals as goal

pub loop-at-preserved : goal.loop-at-preserved
loop-at-preserved c = search blanks_on
