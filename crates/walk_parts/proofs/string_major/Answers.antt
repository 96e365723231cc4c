-- `walk_parts::string_major` meets its contract.
-- Assumes nothing.
use Rattle.walk_parts.proofs.StringCode.{major_ways}
use Rattle.walk_parts.proofs.string_major.Goals as goal

pub returns-then-text : goal.returns-then-text
returns-then-text c = search major_ways

pub returns-else-text : goal.returns-else-text
returns-else-text c = search major_ways
