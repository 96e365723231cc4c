-- `leaf_head::step` meets its contract.
-- Assumes nothing.
use Rattle.leaf_head.proofs.HeadsCode.{step_is}
use Rattle.leaf_head.proofs.step.Goals as goal

pub returns : goal.returns
returns c = search step_is
