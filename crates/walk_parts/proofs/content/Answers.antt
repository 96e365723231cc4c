-- `walk_parts::content` meets its contract.
-- Assumes nothing.
use Rattle.walk_parts.proofs.StringCode.{content_ways}
use Rattle.walk_parts.proofs.content.Goals as goal

pub returns-then-bytes-from : goal.returns-then-bytes-from
returns-then-bytes-from c = search content_ways

pub returns-then-is_text : goal.returns-then-is_text
returns-then-is_text c = search content_ways

pub returns : goal.returns
returns c = search content_ways
