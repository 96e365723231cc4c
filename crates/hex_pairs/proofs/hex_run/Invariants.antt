-- `hex_pairs::hex_run` meets its contract.
-- Assumes nothing.
use Rattle.hex_pairs.specs.PairAnswers.{HexDigits}
use Rattle.hex_pairs.proofs.hex_run.Given as goal

abbrev pub invariant-loop-at : goal.invariant-loop-at
invariant-loop-at l = HexDigits l.text l.from l.at
