-- `scanning::scan::TextCursor::word` meets its contract.
-- Assumes nothing.
use Rattle.scanning.proofs.ScanCode.{word-start, word-step, word_stop, word_end}
use Rattle.scanning.proofs.scan.TextCursor.word.Goals as goal

pub loop-at-init : goal.loop-at-init
loop-at-init c = search word-start

pub returns-then-not-is_word : goal.returns-then-not-is_word
returns-then-not-is_word c = search word_stop

pub loop-at-preserved : goal.loop-at-preserved
loop-at-preserved c = search word-step

pub returns : goal.returns
returns c = search word_end
