-- `report_lines::said_of_text` meets its contract.
-- Assumes nothing.
use Rattle.report_lines.proofs.Lines.{said_ways}
use Rattle.report_lines.proofs.said_of_text.Goals as goal

pub returns-in-Ok : goal.returns-in-Ok
returns-in-Ok c = search said_ways

pub returns-in-Err : goal.returns-in-Err
returns-in-Err c = search said_ways
