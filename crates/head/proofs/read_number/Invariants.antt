-- `head::read_number` meets its contract.
-- Assumes nothing.
use Rattle.head.proofs.HeadCode.{Reading}
use Rattle.head.proofs.read_number.Given as goal

abbrev pub invariant-loop-i : goal.invariant-loop-i
invariant-loop-i l = Reading l.bytes l.from l.size l.i l.v
