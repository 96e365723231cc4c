-- `leaf_reader::by_token::other_integer` meets its contract.
-- Assumes nothing.
use Rattle.leaf_answer.proofs.LeafCode.{leaf-none}
use Rattle.leaf_reader.proofs.TokenCode.{integer-told, digit-there}
use Rattle.plain_leaf.proofs.IntegerCode.{number_at}
use Rattle.leaf_reader.proofs.by_token.other_integer.Goals as goal

pub returns-then-not-digit_at : goal.returns-then-not-digit_at
returns-then-not-digit_at c = search leaf-none

pub number-requires : goal.number-requires
number-requires c = search digit-there

pub returns : goal.returns
returns c = search (integer-told, number_at)
