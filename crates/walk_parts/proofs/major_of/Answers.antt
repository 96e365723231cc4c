-- `walk_parts::major_of` meets its contract.
-- Assumes nothing.
use Rattle.walk_parts.proofs.WalkItems.{major-byte}
use Rattle.walk_parts.proofs.major_of.Goals as goal

pub returns : goal.returns
returns c = search major-byte
