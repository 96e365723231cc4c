-- `string_output::backslashed` meets its contract.
-- Assumes nothing.
use Rattle.string_output.proofs.ContentCode.{two}
use Rattle.string_output.proofs.backslashed.Goals as goal

pub returns : goal.returns
returns c = search two
