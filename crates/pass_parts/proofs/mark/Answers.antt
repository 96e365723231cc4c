use Rattle.printer.proofs.PrintBounds.{size-length}
use Rattle.pass_parts.proofs.PartCode.{mark-none, mark_open, mark-wide}
use Rattle.pass_parts.proofs.mark.Goals as goal

pub returns-then-n : goal.returns-then-n
returns-then-n c = search mark-none

pub returns-then-info-eq-INDEFINITE_LENGTH : goal.returns-then-info-eq-INDEFINITE_LENGTH
returns-then-info-eq-INDEFINITE_LENGTH c = search mark_open

pub returns : goal.returns
returns c = search (mark-wide, size-length)
