-- `utf8::past_blocks` meets its contract.
-- Assumes nothing.
use Rattle.utf8.proofs.Runs.{ascii-block}
use Rattle.utf8.proofs.past_blocks.Goals as goal

pub loop-end-preserved : goal.loop-end-preserved
loop-end-preserved g c = search ascii-block
