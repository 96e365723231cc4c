-- `utf8::is_ascii` meets its contract.
-- Assumes nothing.
use Rattle.utf8.proofs.Runs.{all_ways}
use Rattle.utf8.proofs.is_ascii.Goals as goal

pub returns-then-bytes-end-lt-BLOCK : goal.returns-then-bytes-end-lt-BLOCK
returns-then-bytes-end-lt-BLOCK c = search all_ways
