-- `edn_c::edn_check` meets its contract.
-- Assumes nothing.
use Rattle.edn_c.proofs.Replying.{check_number, check_success, check_value}
use Rattle.edn_c.proofs.edn_check.Goals as goal

pub returns-clause-value : goal.returns-clause-value
returns-clause-value c = search check_number

pub returns-clause-result_value : goal.returns-clause-result_value
returns-clause-result_value c = search check_success

pub returns-clause-value_after : goal.returns-clause-value_after
returns-clause-value_after c = search check_value
