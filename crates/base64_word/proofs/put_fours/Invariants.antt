-- `base64_word::put_fours` meets its contract.
-- Assumes nothing.
use Prim.Native.Nat.{◌-◌}
use Rattle.base64_word.proofs.WordCode.{FoursRead}
use Rattle.base64_word.proofs.put_fours.Given as goal

abbrev pub invariant-loop-at : goal.invariant-loop-at
invariant-loop-at l = FoursRead l.text l.stop l.from l.initial.out l.out l.pos l.at l.p

abbrev pub decreases-loop-at : goal.decreases-loop-at
decreases-loop-at l = l.last - l.at
