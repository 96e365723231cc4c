-- `buffer::copy_at` meets its contract.
-- Assumes nothing.
use Rattle.buffer.proofs.EmitCode.{Copying}
use Rattle.buffer.proofs.copy_at.Given as goal

abbrev pub invariant-loop-i : goal.invariant-loop-i
invariant-loop-i l = Copying l.b-items l.initial.out l.pos l.i l.out
