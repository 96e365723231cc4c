-- `rows::fill::elements` meets its contract.
-- Assumes nothing.
use lib.ListN.{length}
use Rattle.rows.proofs.fill.elements.Given as goal

abbrev pub decreases-loop-left : goal.decreases-loop-left
decreases-loop-left l = length l.left
