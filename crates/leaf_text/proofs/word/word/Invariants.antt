-- `leaf_text::word::word` meets its contract.
-- Assumes nothing.
use Rattle.leaf_text.proofs.WordCode.{Lettered}
use Rattle.leaf_text.proofs.word.word.Given as goal

abbrev pub invariant-loop-i : goal.invariant-loop-i
invariant-loop-i l = Lettered l.letters l.initial.out l.pos l.i l.out
