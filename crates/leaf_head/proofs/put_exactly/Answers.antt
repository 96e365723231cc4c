-- `leaf_head::put_exactly` meets its contract.
-- Assumes nothing.
use Rattle.leaf_head.proofs.HeadsCode.{head_more, head_first}
use Rattle.leaf_head.proofs.put_exactly.Goals as goal

pub overflow_add-first : goal.overflow_add-first
overflow_add-first c = search head_first

pub returns : goal.returns
returns c = search head_more
