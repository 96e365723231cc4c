-- `quick_leaf::top` meets its contract.
-- Assumes nothing.
use Rattle.quick_leaf.specs.WalkLeaves.{Topped}
use Rattle.quick_leaf.proofs.top.Given as goal

abbrev pub invariant-loop-i : goal.invariant-loop-i
invariant-loop-i l = Topped l.bytes l.at l.n l.i l.most
