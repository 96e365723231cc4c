-- `leaf_integer::value` meets its contract.
-- Assumes nothing.
use native.Mathlib.Omega.{arith}
use Rattle.leaf_integer.proofs.IntegerCode.{value-none, value-more, value-few-more}
use Rattle.leaf_integer.proofs.value.Goals as goal

pub loop-i-init : goal.loop-i-init
loop-i-init g c = search value-none

pub more-n-requires : goal.more-n-requires
more-n-requires g c = search value-few-more

pub loop-i-preserved : goal.loop-i-preserved
loop-i-preserved g c = value-more (omega (arith, c.requires.in_bounds)) c.loop-i.invariant c.more-n.ensures
