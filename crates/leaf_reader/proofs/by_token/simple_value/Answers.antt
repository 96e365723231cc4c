-- `leaf_reader::by_token::simple_value` meets its contract.
-- Assumes nothing.
use Rattle.leaf_answer.proofs.LeafCode.{leaf-none}
use Rattle.leaf_reader.proofs.TokenCode.{simple-told, simple-inside}
use Rattle.leaf_reader.proofs.by_token.simple_value.Goals as goal

pub simple_token-requires : goal.simple_token-requires
simple_token-requires c = search simple-inside

pub returns-then-simple_at : goal.returns-then-simple_at
returns-then-simple_at c = search simple-told

pub returns : goal.returns
returns c = search leaf-none
