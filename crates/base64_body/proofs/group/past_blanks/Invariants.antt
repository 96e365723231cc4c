-- `base64_body::group::past_blanks` meets its contract.
-- Assumes nothing.
use Rattle.base64_body.proofs.BlankCode.{Passed}
use Rattle.base64_body.proofs.group.past_blanks.Given as goal

abbrev pub invariant-loop-at : goal.invariant-loop-at
invariant-loop-at l = Passed l.text l.stop l.from l.at
