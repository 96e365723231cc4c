-- `correcting::one_item::alone` meets its contract.
-- Assumes nothing.
use borrow.Author.Rules.{rules}
use Rattle.refusal.specs.RefusalKinds.{kind_number}
use Rattle.correcting.proofs.ReadOne.{behind_ways}
use Rattle.correcting.proofs.one_item.alone.Goals as goal

pub returns-then-m-text : goal.returns-then-m-text
unfolding kind_number
returns-then-m-text c = search behind_ways

pub next_token-t-requires : goal.next_token-t-requires
unfolding kind_number
next_token-t-requires c = search rules

pub refuse-requires : goal.refuse-requires
unfolding kind_number
refuse-requires c = search rules

pub returns-then-t-m : goal.returns-then-t-m
unfolding kind_number
returns-then-t-m c = search behind_ways

pub strayed-requires : goal.strayed-requires
unfolding kind_number
strayed-requires c = search rules

pub returns : goal.returns
unfolding kind_number
returns c = search behind_ways
