-- `walk::walk_all` meets its contract.
-- Assumes nothing.
use Rattle.walk_parts.proofs.WalkItems.{all_ways}
use Rattle.walk.proofs.walk_all.Goals as goal

pub returns-then-bytes-gt-MOST_BYTES : goal.returns-then-bytes-gt-MOST_BYTES
returns-then-bytes-gt-MOST_BYTES c = search all_ways

pub returns : goal.returns
returns c = search all_ways
