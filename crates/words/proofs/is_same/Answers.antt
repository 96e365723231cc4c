-- `words::is_same` meets its contract.
-- Assumes nothing.
use Rattle.words.proofs.WordCode.{same_word}
use Rattle.words.proofs.is_same.Goals as goal

pub returns : goal.returns
returns c = same_word _ c.requires c.eq.ensures
