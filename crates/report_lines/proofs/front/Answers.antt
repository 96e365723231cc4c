-- `report_lines::front` meets its contract.
-- Assumes nothing.
use Rattle.std.proofs.Common.{rules}
use Rattle.std.proofs.lemmas.List.{take_min}
use Rattle.report_lines.proofs.front.Goals as goal

pub returns : goal.returns
returns c = search (rules, take_min)
