-- `literal_body::hex_value` meets its contract.
-- Assumes nothing.
use Rattle.literal_body.proofs.LiteralCode.{digit_ways}
use Rattle.literal_body.proofs.hex_value.Goals as goal

pub returns-then-is_hex : goal.returns-then-is_hex
returns-then-is_hex c = search digit_ways

pub returns-else-is_hex : goal.returns-else-is_hex
returns-else-is_hex c = search digit_ways
