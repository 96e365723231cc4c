-- `looking::guided::past_items` meets its contract.
-- Assumes nothing.
use Rattle.looking.proofs.Guiding.{pass_ways}
use Rattle.looking.proofs.guided.past_items.Goals as goal

pub returns-then-is_over : goal.returns-then-is_over
returns-then-is_over c = search (pass_ways, c.shared_slice_known-1.given)

pub returns-then-r : goal.returns-then-r
returns-then-r c = search (pass_ways, c.shared_slice_known-1.given)

pub returns : goal.returns
returns c = search (pass_ways, c.shared_slice_known-1.given)
