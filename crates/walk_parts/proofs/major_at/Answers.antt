-- `walk_parts::major_at` meets its contract.
-- Assumes nothing.
use Rattle.walk_parts.proofs.WalkItems.{major-none}
use Rattle.walk_parts.proofs.major_at.Goals as goal

pub returns-then-bytes-at : goal.returns-then-bytes-at
returns-then-bytes-at c = search major-none
