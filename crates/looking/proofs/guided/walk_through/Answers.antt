-- `looking::guided::walk_through` meets its contract.
-- Assumes nothing.
use Rattle.looking.proofs.Guiding.{through_not, through_start, through_ways}
use Rattle.looking.proofs.guided.walk_through.Goals as goal

pub returns-then-bytes-gt-MOST_BYTES : goal.returns-then-bytes-gt-MOST_BYTES
returns-then-bytes-gt-MOST_BYTES c = search through_not

pub returns-then-path-eq0 : goal.returns-then-path-eq0
returns-then-path-eq0 c = search through_not

pub returns-then-path-eq1 : goal.returns-then-path-eq1
returns-then-path-eq1 c = search through_ways

pub among-requires : goal.among-requires
among-requires c = search through_start

pub returns : goal.returns
returns c = search (through_ways, c.shared_slice_known-1.given)
