-- `scanning::run::text_block` meets its contract.
-- Assumes nothing.
use Rattle.scanning.proofs.RunCode.{Firsts}
use Rattle.scanning.proofs.run.text_block.Given as goal

abbrev pub invariant-loop-i : goal.invariant-loop-i
invariant-loop-i l = Firsts l.text l.x l.y l.at l.i l.first
