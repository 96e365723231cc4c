-- `report_lines::at_place` meets its contract.
-- Assumes nothing.
use Rattle.report_lines.proofs.Lines.{lines}
use Rattle.report_lines.proofs.at_place.Goals as goal

pub returns : goal.returns
returns c = search lines
