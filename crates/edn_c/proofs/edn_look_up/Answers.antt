-- `edn_c::edn_look_up` meets its contract.
-- Assumes nothing.
use Rattle.edn_c.proofs.Replying.{part-number, part-success, part-value}
use Rattle.edn_c.proofs.edn_look_up.Goals as goal

pub returns-clause-value : goal.returns-clause-value
returns-clause-value c = search part-number

pub returns-clause-result_value : goal.returns-clause-result_value
returns-clause-result_value c = search part-success

pub returns-clause-value_after : goal.returns-clause-value_after
returns-clause-value_after c = search part-value
