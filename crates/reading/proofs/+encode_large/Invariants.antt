-- `reading::encode_large` meets its contract, in both of its turns.
-- Assumes nothing.
use Rattle.reading.proofs.+encode_large.Given as goal

abbrev pub decreases-encode_large : goal.decreases-encode_large
decreases-encode_large l = l.turns
