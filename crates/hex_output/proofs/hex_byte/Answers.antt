-- `hex_output::hex_byte` meets its contract.
-- Assumes nothing.
use Rattle.hex_output.proofs.HexCode.{hex_two}
use Rattle.hex_output.proofs.hex_byte.Goals as goal

pub returns : goal.returns
returns c = search hex_two
