-- `leaf_head::put_eight` meets its contract.
-- Assumes nothing.
use Rattle.head.proofs.HeadCode.{Filling}
use Rattle.leaf_head.proofs.put_eight.Given as goal

abbrev pub invariant-loop-k : goal.invariant-loop-k
invariant-loop-k l = Filling l.initial.buf l.from 8 l.n l.k l.m l.buf
