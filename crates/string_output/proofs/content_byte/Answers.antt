-- `string_output::content_byte` meets its contract.
-- Assumes nothing.
use Rattle.string_output.proofs.ContentCode.{content_ways}
use Rattle.string_output.proofs.content_byte.Goals as goal

pub returns-then-text : goal.returns-then-text
returns-then-text c = search content_ways

pub returns-else-text : goal.returns-else-text
returns-else-text c = search content_ways
