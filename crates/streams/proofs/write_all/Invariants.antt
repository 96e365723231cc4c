-- `streams::write_all` meets its contract.
-- Assumes nothing.
use Rattle.std.proofs.Common.{◌≤◌, length, take}
use Rattle.std.specs.Io.KnownBytes.{Appends}
use Rattle.streams.proofs.write_all.Given as goal

abbrev pub invariant-loop : goal.invariant-loop
invariant-loop g l = (l.written ≤ length l.buf) × Appends (g.W.Write.contents l.initial.to) (g.W.Write.contents l.to) (take l.written l.buf)
