-- `scanning::scan::blanks` meets its contract.
-- Assumes nothing.
use Rattle.scanning.proofs.ScanCode.{Blanking}
use Rattle.scanning.proofs.scan.blanks.Given as goal

abbrev pub invariant-loop-at : goal.invariant-loop-at
invariant-loop-at l = Blanking l.text l.from l.at
