-- `leaf_head::put_eight` meets its contract.
-- Assumes nothing.
use Rattle.head.proofs.HeadCode.{fill_start, fill_step, fill_ways}
use Rattle.leaf_head.proofs.put_eight.Goals as goal
use Rattle.leaf_head.proofs.put_eight.Goals.{then-buf-lt8-via-then-buf-lt8, then-buf-lt8-via-else-buf-lt8+then-buf-from}

pub returns-then-buf-lt8 : goal.returns-then-buf-lt8
returns-then-buf-lt8 c =
    elim c.then-buf-lt8.branch [ then-buf-lt8-via-then-buf-lt8 w ↦ search fill_ways | then-buf-lt8-via-else-buf-lt8+then-buf-from w ↦ search fill_ways ]

pub loop-k-init : goal.loop-k-init
loop-k-init c = search fill_start

pub loop-k-preserved : goal.loop-k-preserved
loop-k-preserved c = search fill_step

pub returns : goal.returns
returns c = search fill_ways
