-- `plain_string::string::quoted` meets its contract.
-- Assumes nothing.
use Rattle.plain_string.proofs.StringCode.{quoted-leaf}
use Rattle.plain_string.proofs.string.quoted.Goals as goal

pub returns : goal.returns
returns c = search quoted-leaf
