-- `base64_word::word` meets its contract.
-- Assumes nothing.
use Rattle.base64_word.proofs.WordCode.{Weighed}
use Rattle.base64_word.proofs.word.Given as goal

abbrev pub invariant-loop-k : goal.invariant-loop-k
invariant-loop-k l = Weighed l.text l.at l.k l.w
