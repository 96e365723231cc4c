-- `hex_pairs::digit_block` meets its contract.
-- Assumes nothing.
use Rattle.hex_pairs.proofs.PairsCode.{Firsts}
use Rattle.hex_pairs.proofs.digit_block.Given as goal

abbrev pub invariant-loop-i : goal.invariant-loop-i
invariant-loop-i l = Firsts l.text l.at l.i l.first
