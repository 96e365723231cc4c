-- `leaf_text::word::word` meets its contract.
-- Assumes nothing.
use Rattle.leaf_text.proofs.WordCode.{letters_start, letters_step, letters_end}
use Rattle.leaf_text.proofs.word.word.Goals as goal

pub loop-i-init : goal.loop-i-init
loop-i-init c = search letters_start

pub loop-i-preserved : goal.loop-i-preserved
loop-i-preserved c = search letters_step

pub returns : goal.returns
returns c = search letters_end
