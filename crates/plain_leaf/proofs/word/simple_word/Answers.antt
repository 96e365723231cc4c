-- `plain_leaf::word::simple_word` meets its contract.
-- Assumes nothing.
use Rattle.plain_leaf.proofs.WordCode.{word_true, word_null, word_false}
use Rattle.plain_leaf.proofs.word.simple_word.Goals as goal

pub returns-in-1953658213 : goal.returns-in-1953658213
returns-in-1953658213 c = search word_true

pub returns-in-1853189228 : goal.returns-in-1853189228
returns-in-1853189228 c = search word_null

pub returns-in-1717660787 : goal.returns-in-1717660787
returns-in-1717660787 c = search word_false
