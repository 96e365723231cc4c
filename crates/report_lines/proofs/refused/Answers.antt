-- `report_lines::refused` meets its contract.
-- Assumes nothing.
use Rattle.report_lines.proofs.Lines.{lines}
use Rattle.report_lines.proofs.refused.Goals as goal

pub returns : goal.returns
returns c = search lines
