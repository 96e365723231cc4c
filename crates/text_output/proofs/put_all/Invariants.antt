-- `text_output::put_all` meets its contract.
-- Assumes nothing.
use Rattle.text_output.proofs.PrintLeaves.{Copied}
use Rattle.text_output.proofs.put_all.Given as goal

abbrev pub invariant-loop-b : goal.invariant-loop-b
invariant-loop-b l = Copied l.text l.initial.out l.pos l.b-index l.p l.out
