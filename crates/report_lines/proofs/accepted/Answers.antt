-- `report_lines::accepted` meets its contract.
-- Assumes nothing.
use Rattle.report_lines.proofs.Lines.{lines}
use Rattle.report_lines.proofs.accepted.Goals as goal

pub returns : goal.returns
returns c = search lines
