-- `hex_weight::pair` meets its contract.
-- Assumes nothing.
use Rattle.hex_weight.proofs.WeightCode.{Weighed}
use Rattle.hex_weight.proofs.pair.Given as goal

abbrev pub invariant-loop-k : goal.invariant-loop-k
invariant-loop-k l = Weighed l.text l.at l.k l.w
