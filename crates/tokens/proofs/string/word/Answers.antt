-- `tokens::string::word` meets its contract.
-- Assumes nothing.
use Rattle.tokens.proofs.StringCode.{word-part, word-enclosed, word-prefixed, word-worded}
use Rattle.tokens.proofs.string.word.Goals as goal

pub prefixed-requires : goal.prefixed-requires
prefixed-requires c = search word-enclosed

pub returns-then-next_is : goal.returns-then-next_is
returns-then-next_is c = search word-prefixed

pub worded-requires : goal.worded-requires
worded-requires c = search word-part

pub returns : goal.returns
returns c = search word-worded
