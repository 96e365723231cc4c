-- `utf8::is_ascii_block` meets its contract.
-- Assumes nothing.
use Rattle.utf8.proofs.Runs.{Topped}
use Rattle.utf8.proofs.is_ascii_block.Given as goal

abbrev pub invariant-loop-i : goal.invariant-loop-i
invariant-loop-i g l = Topped l.bytes l.at l.i l.most
