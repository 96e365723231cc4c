-- `hex_pairs::values` meets its contract.
-- Assumes nothing.
use Rattle.hex_pairs.proofs.PairsCode.{Values}
use Rattle.hex_pairs.proofs.values.Given as goal

abbrev pub invariant-loop-i : goal.invariant-loop-i
invariant-loop-i l = Values l.text l.from l.i l.t
