-- `plain_string::block::nibbles` meets its contract.
-- Assumes nothing.
use Rattle.plain_string.proofs.BlockCode.{Nibbling}
use Rattle.plain_string.proofs.block.nibbles.Given as goal

abbrev pub invariant-loop-i : goal.invariant-loop-i
invariant-loop-i l = Nibbling l.text l.from l.i l.t
