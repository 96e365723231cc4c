-- `plain_bytes::is_plain` meets its contract.
-- Assumes nothing.
use Rattle.plain_bytes.proofs.PlainRuns.{Most}
use Rattle.plain_bytes.proofs.is_plain.Given as goal

abbrev pub invariant-loop-b : goal.invariant-loop-b
invariant-loop-b l = Most l.bytes l.b-index l.most
