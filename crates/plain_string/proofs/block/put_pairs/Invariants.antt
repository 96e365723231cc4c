-- `plain_string::block::put_pairs` meets its contract.
-- Assumes nothing.
use Rattle.plain_string.proofs.BlockCode.{Pairing}
use Rattle.plain_string.proofs.block.put_pairs.Given as goal

abbrev pub invariant-loop-i : goal.invariant-loop-i
invariant-loop-i l = Pairing l.text l.from l.initial.buf l.at l.i l.buf
