-- `hex_pairs::stop_at` meets its contract.
-- Assumes nothing.
use Rattle.hex_pairs.proofs.PairsCode.{stop_ways}
use Rattle.hex_pairs.proofs.stop_at.Goals as goal

pub returns-then-is_between : goal.returns-then-is_between
returns-then-is_between c = search stop_ways

pub returns-then-is_between-2 : goal.returns-then-is_between-2
returns-then-is_between-2 c = search stop_ways

pub returns-then-is_between-3 : goal.returns-then-is_between-3
returns-then-is_between-3 c = search stop_ways

pub returns : goal.returns
returns c = search stop_ways
