-- `decimals::eight::marks` meets its contract.
-- Assumes nothing.
use Rattle.decimals.proofs.WordCode.{marks_are}
use Rattle.decimals.proofs.eight.marks.Goals as goal

pub returns : goal.returns
returns c = search marks_are
