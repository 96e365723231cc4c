-- `base64_body::read_base64` meets its contract.
-- Assumes nothing.
use Prim.Native.Nat.{◌-◌}
use Rattle.notation.specs.Literals.{base64_content}
use Rattle.literal_body.specs.LiteralReading.{Progressed}
use Rattle.base64_body.proofs.read_base64.Given as goal

abbrev pub invariant-loop-i : goal.invariant-loop-i
invariant-loop-i l = Progressed base64_content l.text l.stop l.at l.initial.out l.out l.pos (record { next = l.i; pos = l.p; size = l.size })

abbrev pub decreases-loop-i : goal.decreases-loop-i
decreases-loop-i l = l.stop - l.i
