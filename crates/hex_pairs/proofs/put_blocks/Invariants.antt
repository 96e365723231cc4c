-- `hex_pairs::put_blocks` meets its contract.
-- Assumes nothing.
use Prim.Native.Nat.{◌*◌}
use Rattle.literal_body.specs.LiteralAnswers.{Put}
use Rattle.hex_pairs.specs.PairAnswers.{pair_bytes}
use Rattle.hex_pairs.proofs.put_blocks.Given as goal

abbrev pub invariant-loop-i : goal.invariant-loop-i
invariant-loop-i l = Put l.initial.out l.out l.pos l.p (pair_bytes l.text l.from (16 * l.i))
