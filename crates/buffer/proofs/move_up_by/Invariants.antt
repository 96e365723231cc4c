-- `buffer::move_up_by` meets its contract.
-- Assumes nothing.
use Rattle.buffer.proofs.EmitCode.{Raising}
use Rattle.buffer.proofs.move_up_by.Given as goal

abbrev pub invariant-loop-i : goal.invariant-loop-i
invariant-loop-i g l = Raising l.initial.out l.from g.row.BY l.size l.i l.out
