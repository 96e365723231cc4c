-- `looking::part_at` meets its contract.
-- Assumes nothing.
use Rattle.looking.proofs.Parts.{at_once}
use Rattle.looking.proofs.part_at.Goals as goal

pub returns-in-Some : goal.returns-in-Some
returns-in-Some c = search at_once
