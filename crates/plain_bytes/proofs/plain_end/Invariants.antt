-- `plain_bytes::plain_end` meets its contract.
-- Assumes nothing.
use Rattle.plain_bytes.specs.Runs.{PlainRun}
use Prim.Native.Nat.{◌-◌}
use lib.ListN.{length}
use Rattle.plain_bytes.proofs.plain_end.Given as goal

abbrev pub invariant-loop-end : goal.invariant-loop-end
invariant-loop-end l = PlainRun l.bytes l.from l.end

abbrev pub decreases-loop-end : goal.decreases-loop-end
decreases-loop-end l = length l.bytes - l.end
