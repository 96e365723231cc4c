-- `buffer::put` meets its contract.
-- Assumes nothing.
use Rattle.buffer.proofs.EmitCode.{put_ways}
use Rattle.buffer.proofs.put.Goals as goal

pub returns-then-pos-out : goal.returns-then-pos-out
returns-then-pos-out c = search put_ways

pub returns-else-pos-out : goal.returns-else-pos-out
returns-else-pos-out c = search put_ways
