-- `leaf_reader::by_token::token_leaf` meets its contract.
-- Assumes nothing.
use Rattle.leaf_reader.proofs.TokenCode.{token-made}
use Rattle.leaf_reader.proofs.by_token.token_leaf.Goals as goal

pub returns : goal.returns
returns c = search token-made
