-- `plain_leaf::integer::signed` meets its contract.
-- Assumes nothing.
use Rattle.plain_leaf.proofs.IntegerCode.{signed_ways}
use Rattle.plain_leaf.proofs.integer.signed.Goals as goal

pub returns-then-not-digit_at : goal.returns-then-not-digit_at
returns-then-not-digit_at c = search signed_ways

pub integer-requires : goal.integer-requires
integer-requires c = search signed_ways
