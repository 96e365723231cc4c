-- `leaf_head::info_of` meets its contract.
-- Assumes nothing.
use Rattle.leaf_head.proofs.HeadsCode.{info_ways, info_fits}
use Rattle.leaf_head.proofs.info_of.Goals as goal

pub overflow_cast-result : goal.overflow_cast-result
overflow_cast-result c = search info_fits

pub overflow_cast-result-else-step-eq0 : goal.overflow_cast-result-else-step-eq0
overflow_cast-result-else-step-eq0 c = search info_fits

pub overflow_add-result : goal.overflow_add-result
overflow_add-result c = search info_fits

pub returns-then-step-eq0 : goal.returns-then-step-eq0
returns-then-step-eq0 c = search info_ways

pub returns-else-step-eq0 : goal.returns-else-step-eq0
returns-else-step-eq0 c = search info_ways
