-- `utf8::ascii_end` meets its contract.
-- Assumes nothing.
use Rattle.utf8.specs.AsciiRuns.{Ascii}
use Rattle.utf8.proofs.ascii_end.Given as goal

abbrev pub invariant-loop-end : goal.invariant-loop-end
invariant-loop-end l = Ascii l.bytes l.from l.end
