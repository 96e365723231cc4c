-- `scanning::scan::comments` meets its contract.
-- Assumes nothing.
use Prim.Native.Nat.{◌-◌}
use lib.ListN.{length}
use Rattle.notation.specs.Reading.{marked}
use Rattle.scanning.proofs.ScanCode.{Skimming}
use Rattle.scanning.proofs.scan.comments.Given as goal

abbrev pub invariant-loop-end : goal.invariant-loop-end
invariant-loop-end l = Skimming l.text l.from l.at l.end

abbrev pub decreases-loop-end : goal.decreases-loop-end
decreases-loop-end l = length (marked l.text) - l.at
