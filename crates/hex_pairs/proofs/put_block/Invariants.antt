-- `hex_pairs::put_block` meets its contract.
-- Assumes nothing.
use Rattle.hex_pairs.proofs.PairsCode.{BlockPut}
use Rattle.hex_pairs.proofs.put_block.Given as goal

abbrev pub invariant-loop-j : goal.invariant-loop-j
invariant-loop-j l = BlockPut l.text l.from l.initial.out l.p l.j l.out
