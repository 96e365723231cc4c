-- `walk_answer::mode_of` meets its contract.
-- Assumes nothing.
use Rattle.walk_answer.proofs.Turns.{mode_ways}
use Rattle.walk_answer.proofs.mode_of.Goals as goal

pub returns-then-info-eq-INDEFINITE_LENGTH : goal.returns-then-info-eq-INDEFINITE_LENGTH
returns-then-info-eq-INDEFINITE_LENGTH c = search mode_ways

pub returns-else-info-eq-INDEFINITE_LENGTH : goal.returns-else-info-eq-INDEFINITE_LENGTH
returns-else-info-eq-INDEFINITE_LENGTH c = search mode_ways
