-- `string_output::escaped` meets its contract.
-- Assumes nothing.
use Rattle.string_output.proofs.ContentCode.{escape_ways}
use Rattle.string_output.proofs.escaped.Goals as goal

pub returns-in-34 : goal.returns-in-34
returns-in-34 c = search escape_ways

pub returns-in-0-to-31 : goal.returns-in-0-to-31
returns-in-0-to-31 c = search escape_ways

pub returns-in_default : goal.returns-in_default
returns-in_default c = search escape_ways
