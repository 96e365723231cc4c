-- `streams::write_all` meets its contract.
-- Assumes nothing.
use Rattle.std.proofs.Common.{rules}
use Rattle.std.proofs.KnownBytes.{Appends-kept}
use Rattle.streams.proofs.Bytes.{write_on}
use Rattle.streams.proofs.write_all.Goals as goal

pub loop-preserved : goal.loop-preserved
loop-preserved g c = search (rules, write_on, Appends-kept)
