-- `plain_string::string::hexadecimal` meets its contract.
-- Assumes nothing.
use Rattle.plain_string.proofs.StringCode.{hex-leaf}
use Rattle.plain_string.proofs.string.hexadecimal.Goals as goal

pub returns : goal.returns
returns c = search hex-leaf
