-- `string_output::run` meets its contract.
-- Assumes nothing.
use Rattle.string_output.proofs.ContentCode.{run-copied}
use Rattle.string_output.proofs.run.Goals as goal

pub returns-then-bytes-out : goal.returns-then-bytes-out
returns-then-bytes-out c = search run-copied
