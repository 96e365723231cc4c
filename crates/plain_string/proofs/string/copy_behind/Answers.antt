-- `plain_string::string::copy_behind` meets its contract.
-- Assumes nothing.
use Rattle.plain_string.proofs.StringCode.{behind-copied}
use Rattle.plain_string.proofs.string.copy_behind.Goals as goal

pub returns : goal.returns
returns c = search behind-copied
