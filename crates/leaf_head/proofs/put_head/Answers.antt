-- `leaf_head::put_head` meets its contract.
-- Assumes nothing.
use Rattle.leaf_head.proofs.HeadsCode.{head_first, head_scaled, head-wide}
use Rattle.leaf_head.proofs.put_head.Goals as goal

pub overflow_add-major : goal.overflow_add-major
overflow_add-major c = search head_first

pub overflow_mul-n : goal.overflow_mul-n
overflow_mul-n c = search head_scaled

pub returns : goal.returns
returns c = search head-wide
