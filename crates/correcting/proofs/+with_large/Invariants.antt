-- `correcting::with_large` meets its contract, in both of its turns.
-- Assumes nothing.
use Rattle.correcting.proofs.+with_large.Given as goal

abbrev pub decreases-with_large : goal.decreases-with_large
decreases-with_large l = l.turns
