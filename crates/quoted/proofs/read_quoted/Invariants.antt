-- `quoted::read_quoted` meets its contract.
-- Assumes nothing.
use Prim.Native.Nat.{◌-◌}
use lib.ListN.{length}
use Rattle.quoted.proofs.QuotedPieces.{QuoteRead}
use Rattle.quoted.proofs.read_quoted.Given as goal

abbrev pub invariant-loop-i : goal.invariant-loop-i
invariant-loop-i l = QuoteRead l.text l.initial.out l.at l.quote l.pos l.i l.p l.size l.out

abbrev pub decreases-loop-i : goal.decreases-loop-i
decreases-loop-i l = length l.text - l.i
