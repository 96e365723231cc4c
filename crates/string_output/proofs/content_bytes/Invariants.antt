-- `string_output::content_bytes` meets its contract.
-- Assumes nothing.
use Rattle.string_output.proofs.ContentCode.{Filled}
use Rattle.string_output.proofs.content_bytes.Given as goal

abbrev pub invariant-loop-b : goal.invariant-loop-b
invariant-loop-b l = Filled l.text l.bytes l.initial.out l.pos l.b-index l.p l.out
