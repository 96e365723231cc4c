-- `hex_output::hex_digit` meets its contract.
-- Assumes nothing.
use Rattle.hex_output.proofs.HexCode.{hex-fits, hex-is}
use Rattle.hex_output.proofs.hex_digit.Goals as goal

pub overflow_add-result-2 : goal.overflow_add-result-2
overflow_add-result-2 c = search hex-fits

pub returns : goal.returns
returns c = search hex-is
