-- `hex_body::next_byte` meets its contract.
-- Assumes nothing.
use Rattle.hex_body.proofs.HexCode.{byte_ways}
use Rattle.hex_body.proofs.next_byte.Goals as goal

pub returns-then-stop-i : goal.returns-then-stop-i
returns-then-stop-i c = search byte_ways

pub returns-then-high-ge16 : goal.returns-then-high-ge16
returns-then-high-ge16 c = search byte_ways

pub returns-then-stop-j : goal.returns-then-stop-j
returns-then-stop-j c = search byte_ways

pub returns-then-low-ge16 : goal.returns-then-low-ge16
returns-then-low-ge16 c = search byte_ways

pub returns : goal.returns
returns c = search byte_ways
