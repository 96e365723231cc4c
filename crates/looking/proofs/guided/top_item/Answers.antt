-- `looking::guided::top_item` meets its contract.
-- Assumes nothing.
use Rattle.looking.proofs.Guiding.{through_start, through_at, top_ways}
use Rattle.looking.proofs.guided.top_item.Goals as goal

pub past_items-at-requires : goal.past_items-at-requires
past_items-at-requires c = search through_start

pub returns-then-bytes-at : goal.returns-then-bytes-at
returns-then-bytes-at c = search top_ways

pub past_items-end-requires : goal.past_items-end-requires
past_items-end-requires c = search through_at

pub returns-then-bytes-end : goal.returns-then-bytes-end
returns-then-bytes-end c = search top_ways

pub past_items-all-requires : goal.past_items-all-requires
past_items-all-requires c = search through_at

pub returns-then-bytes-all : goal.returns-then-bytes-all
returns-then-bytes-all c = search top_ways

pub returns : goal.returns
returns c = search top_ways
