-- `base64_word::put_word` meets its contract.
-- Assumes nothing.
use Rattle.base64_word.proofs.WordCode.{word_ways}
use Rattle.base64_word.proofs.put_word.Goals as goal

pub returns : goal.returns
returns c = search word_ways
