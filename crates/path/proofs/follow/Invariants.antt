-- `path::follow` meets its contract.
-- Assumes nothing.
use Prim.Native.Nat.{◌-◌}
use Rattle.std.specs.Prelude.{Some}
use Rattle.path.proofs.Stepping.{Tracing}
use Rattle.path.proofs.follow.Given as goal

abbrev pub invariant-loop-i : goal.invariant-loop-i
invariant-loop-i l = Tracing l.bytes l.path (Some l.here) (l.i - 1)
