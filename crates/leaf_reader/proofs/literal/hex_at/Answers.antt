-- `leaf_reader::literal::hex_at` meets its contract.
-- Assumes nothing.
use Rattle.leaf_reader.proofs.LiteralCode.{there-hex}
use Rattle.leaf_reader.proofs.literal.hex_at.Goals as goal

pub returns-then-next_is : goal.returns-then-next_is
returns-then-next_is c = search there-hex
