-- `hex_output::hex_pairs` meets its contract.
-- Assumes nothing.
use Rattle.hex_output.proofs.HexCode.{Pairs}
use Rattle.hex_output.proofs.hex_pairs.Given as goal

abbrev pub invariant-loop-i : goal.invariant-loop-i
invariant-loop-i l = Pairs l.bytes l.initial.out l.pos l.i l.out
