-- `leaf_integer::value` meets its contract.
-- Assumes nothing.
use Rattle.leaf_integer.specs.IntegerParts.{Valued}
use Rattle.leaf_integer.proofs.value.Given as goal

abbrev pub invariant-loop-i : goal.invariant-loop-i
invariant-loop-i g l = Valued l.bytes l.from l.i l.n
