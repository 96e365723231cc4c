-- `scanning::run::text_run` meets its contract.
-- Assumes nothing.
use Rattle.scanning.specs.TextRuns.{TextRun}
use Rattle.scanning.proofs.run.text_run.Given as goal

abbrev pub invariant-loop-at : goal.invariant-loop-at
invariant-loop-at l = TextRun l.text l.x l.y l.from l.at
