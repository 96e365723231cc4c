-- `buffer::move_part` meets its contract.
-- Assumes nothing.
use Rattle.buffer.proofs.EmitCode.{part_none, part_up, part_down}
use Rattle.buffer.proofs.move_part.Goals as goal

pub returns-then-size-eq0 : goal.returns-then-size-eq0
returns-then-size-eq0 c = search part_none

pub returns-then-from-to : goal.returns-then-from-to
returns-then-from-to c = search part_up

pub returns-else-from-to : goal.returns-else-from-to
returns-else-from-to c = search part_down
