-- `edn_c::edn_read` meets its contract.
-- Assumes nothing.
use Rattle.edn_c.proofs.Replying.{whole-number, whole-success, whole-buffer, whole-value}
use Rattle.edn_c.proofs.edn_read.Goals as goal

pub returns-clause-value : goal.returns-clause-value
returns-clause-value c = search whole-number

pub returns-clause-result_value : goal.returns-clause-result_value
returns-clause-result_value c = search whole-success

pub returns-clause-out_after : goal.returns-clause-out_after
returns-clause-out_after c = search whole-buffer

pub returns-clause-value_after : goal.returns-clause-value_after
returns-clause-value_after c = search whole-value
