-- `plain_string::string::pairs_behind` meets its contract.
-- Assumes nothing.
use Rattle.plain_string.proofs.StringCode.{pairs_lent}
use Rattle.plain_string.proofs.string.pairs_behind.Goals as goal

pub returns : goal.returns
returns c = search pairs_lent
