-- `string_output::text_content` meets its contract.
-- Assumes nothing.
use Rattle.string_output.proofs.ContentCode.{Filled}
use mathlib.Core.Bool.{true}
use Prim.Native.Nat.{◌-◌}
use lib.ListN.{length}
use Rattle.string_output.proofs.text_content.Given as goal

abbrev pub invariant-loop-i : goal.invariant-loop-i
invariant-loop-i l = Filled true l.bytes l.initial.out l.pos l.i l.p l.out

abbrev pub decreases-loop-i : goal.decreases-loop-i
decreases-loop-i l = length l.bytes - l.i
