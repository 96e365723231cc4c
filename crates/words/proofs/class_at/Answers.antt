-- `words::class_at` meets its contract.
-- Assumes nothing.
use Rattle.words.proofs.WordCode.{stood_ways}
use Rattle.words.proofs.class_at.Goals as goal

pub returns-then-at-text : goal.returns-then-at-text
returns-then-at-text c = search stood_ways

pub returns-then-at-text-2 : goal.returns-then-at-text-2
returns-then-at-text-2 c = search stood_ways

pub returns : goal.returns
returns c = search stood_ways
