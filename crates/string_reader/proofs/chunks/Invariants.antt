-- `string_reader::chunks` meets its contract.
-- Assumes nothing.
use Rattle.notation.specs.Reading.{marked}
use lib.ListN.{length}
use Prim.Native.Nat.{◌-◌}
use Rattle.string_reader.proofs.ReadStrings.{Chunks-run}
use Rattle.string_reader.proofs.chunks.Given as goal

abbrev pub invariant-loop-m : goal.invariant-loop-m
invariant-loop-m l = Chunks-run l.kind l.levels l.text l.initial.buf l.from l.pos l.at l.n l.size l.buf

abbrev pub decreases-loop-m : goal.decreases-loop-m
decreases-loop-m l = length (marked l.text) - l.at
