-- `buffer::move_up` meets its contract.
-- Assumes nothing.
use Rattle.buffer.proofs.EmitCode.{raise_none, raise_by}
use Rattle.buffer.proofs.move_up.Goals as goal

pub returns-in-0 : goal.returns-in-0
returns-in-0 c = search raise_none

pub returns-in-1 : goal.returns-in-1
returns-in-1 c = search raise_by

pub returns-in-2 : goal.returns-in-2
returns-in-2 c = search raise_by

pub returns-in-4 : goal.returns-in-4
returns-in-4 c = search raise_by

pub returns-in-8 : goal.returns-in-8
returns-in-8 c = search raise_by
