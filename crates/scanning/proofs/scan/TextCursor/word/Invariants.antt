-- `scanning::scan::TextCursor::word` meets its contract.
-- Assumes nothing.
use Rattle.scanning.proofs.Marked.{Running}
use Rattle.notation.specs.Classes.{is_word}
use Rattle.scanning.proofs.scan.TextCursor.word.Given as goal

abbrev pub invariant-loop-at : goal.invariant-loop-at
invariant-loop-at l = Running l.text is_word l.initial.at l.at
