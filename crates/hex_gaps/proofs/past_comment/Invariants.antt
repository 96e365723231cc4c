-- `hex_gaps::past_comment` meets its contract.
-- Assumes nothing.
use Rattle.hex_gaps.proofs.BlankCode.{InComment}
use Rattle.hex_gaps.proofs.past_comment.Given as goal

abbrev pub invariant-loop-i : goal.invariant-loop-i
invariant-loop-i l = InComment l.text l.stop l.at l.last l.i
