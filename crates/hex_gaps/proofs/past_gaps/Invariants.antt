-- `hex_gaps::past_gaps` meets its contract.
-- Assumes nothing.
use Prim.Native.Nat.{◌-◌}
use Rattle.hex_gaps.specs.GapAnswers.{Blank}
use Rattle.hex_gaps.proofs.past_gaps.Given as goal

abbrev pub invariant-loop-at : goal.invariant-loop-at
invariant-loop-at l = Blank l.text l.stop l.from l.at

abbrev pub decreases-loop-at : goal.decreases-loop-at
decreases-loop-at l = l.stop - l.at
