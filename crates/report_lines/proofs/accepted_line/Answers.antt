-- `report_lines::accepted_line` meets its contract.
-- Assumes nothing.
use Rattle.report_lines.proofs.Lines.{lines}
use Rattle.report_lines.proofs.accepted_line.Goals as goal

pub returns : goal.returns
returns c = search lines
