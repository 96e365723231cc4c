-- `hex_body::put_close` meets its contract.
-- Assumes nothing.
use Prim.Native.Nat.{◌-◌}
use Rattle.notation.specs.Literals.{hex_content}
use Rattle.literal_body.specs.LiteralReading.{Progressed}
use Rattle.hex_body.proofs.put_close.Given as goal

abbrev pub invariant-loop-at : goal.invariant-loop-at
invariant-loop-at l = Progressed hex_content l.text l.stop l.from l.initial.out l.out l.pos (record { next = l.at; pos = l.p; size = l.size })

abbrev pub decreases-loop-at : goal.decreases-loop-at
decreases-loop-at l = l.stop - l.at
