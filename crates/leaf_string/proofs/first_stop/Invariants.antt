use Rattle.leaf_string.specs.StringParts.{Stops}
use Rattle.leaf_string.proofs.first_stop.Given as goal

abbrev pub invariant-loop-i : goal.invariant-loop-i
invariant-loop-i l = Stops l.bytes l.from l.i l.first
