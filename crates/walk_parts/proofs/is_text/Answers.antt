-- `walk_parts::is_text` meets its contract.
-- Assumes nothing.
use Rattle.walk_parts.proofs.StringCode.{text_ways}
use Rattle.walk_parts.proofs.is_text.Goals as goal

pub returns-then-text : goal.returns-then-text
returns-then-text c = search text_ways

pub returns : goal.returns
returns c = search text_ways
