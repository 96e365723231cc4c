-- `string_output::copy` meets its contract.
-- Assumes nothing.
use Rattle.string_output.proofs.ContentCode.{CopiedTo}
use Rattle.string_output.proofs.copy.Given as goal

abbrev pub invariant-loop-i : goal.invariant-loop-i
invariant-loop-i l = CopiedTo l.bytes l.initial.out l.pos l.i l.out
