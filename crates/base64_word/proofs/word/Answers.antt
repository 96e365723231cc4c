-- `base64_word::word` meets its contract.
-- Assumes nothing.
use Rattle.base64_word.proofs.WordCode.{weighed_start, weighed_high, weighed_sum, weighed_on}
use Rattle.base64_word.proofs.word.Goals as goal

pub loop-k-init : goal.loop-k-init
loop-k-init c = search weighed_start

pub overflow_mul-w : goal.overflow_mul-w
overflow_mul-w c = search weighed_high

pub overflow_add-w : goal.overflow_add-w
overflow_add-w c = search weighed_sum

pub loop-k-preserved : goal.loop-k-preserved
loop-k-preserved c = search weighed_on
