-- `plain_string::string::put_hex` meets its contract.
-- Assumes nothing.
use Rattle.plain_string.proofs.StringCode.{hex-made}
use Rattle.plain_string.proofs.string.put_hex.Goals as goal

pub returns : goal.returns
returns c = search hex-made
