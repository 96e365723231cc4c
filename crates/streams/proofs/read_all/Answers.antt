-- `streams::read_all` meets its contract.
-- Assumes nothing.
use Rattle.std.proofs.Common.{rules}
use Rattle.streams.proofs.Bytes.{read_on, read_kept}
use Rattle.streams.proofs.read_all.Goals as goal

pub loop-preserved : goal.loop-preserved
loop-preserved g c = search (rules, read_on, read_kept)
