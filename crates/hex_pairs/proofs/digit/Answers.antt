-- `hex_pairs::digit` meets its contract.
-- Assumes nothing.
use Rattle.hex_pairs.proofs.DigitCode.{digit_value_lem}
use Rattle.hex_pairs.proofs.digit.Goals as goal

pub returns : goal.returns
returns c = search digit_value_lem
