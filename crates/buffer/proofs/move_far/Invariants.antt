-- `buffer::move_far` meets its contract.
-- Assumes nothing.
use Rattle.buffer.proofs.EmitCode.{Raising}
use Rattle.buffer.proofs.move_far.Given as goal

abbrev pub invariant-loop-i : goal.invariant-loop-i
invariant-loop-i l = Raising l.initial.out l.from l.by l.size l.i l.out
