-- `utf8::whole` meets its contract.
-- Assumes nothing.
use Rattle.cbor.proofs.Sequences.{Behind}
use Rattle.utf8.proofs.whole.Given as goal

abbrev pub invariant-loop-i : goal.invariant-loop-i
invariant-loop-i g l = Behind l.bytes l.at g.row.N l.i l.low l.high
