-- `plain_string::string::put_string` meets its contract.
-- Assumes nothing.
use Rattle.plain_string.proofs.StringCode.{text-made}
use Rattle.plain_string.proofs.string.put_string.Goals as goal

pub returns : goal.returns
returns c = search text-made
