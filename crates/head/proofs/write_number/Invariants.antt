-- `head::write_number` meets its contract.
-- Assumes nothing.
use Rattle.head.proofs.HeadCode.{Filling}
use Rattle.head.proofs.write_number.Given as goal

abbrev pub invariant-loop-k : goal.invariant-loop-k
invariant-loop-k l = Filling l.initial.out l.from l.size l.n l.k l.m l.out
