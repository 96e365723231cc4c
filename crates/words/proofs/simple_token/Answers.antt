-- `words::simple_token` meets its contract.
-- Assumes nothing.
use Rattle.words.proofs.WordCode.{simple_tokens, simple-scans, simple-enclosed}
use Rattle.words.proofs.simple_token.Goals as goal

pub count_digits-d-requires : goal.count_digits-d-requires
count_digits-d-requires c = search simple-scans

pub simple_in-requires : goal.simple_in-requires
simple_in-requires c = search simple-enclosed

pub returns-then-next_is-2 : goal.returns-then-next_is-2
returns-then-next_is-2 c = search simple_tokens

pub returns-then-next_is : goal.returns-then-next_is
returns-then-next_is c = search simple_tokens

pub returns : goal.returns
returns c = search simple_tokens
