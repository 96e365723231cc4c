-- `reader::tagged` meets its contract.
-- Assumes nothing.
use borrow.Author.Rules.{rules}
use Rattle.refusal.specs.RefusalKinds.{kind_number}
use Rattle.reader.proofs.ReadItems.{tagged_ways}
use Rattle.reader.proofs.tagged.Goals as goal

pub may_tag-requires : goal.may_tag-requires
unfolding kind_number
may_tag-requires c = search rules

pub sum-requires : goal.sum-requires
unfolding kind_number
sum-requires c = search rules

pub done-requires : goal.done-requires
unfolding kind_number
done-requires c = search rules

pub returns-then-may_tag : goal.returns-then-may_tag
unfolding kind_number
returns-then-may_tag c = search tagged_ways

pub refuse-requires : goal.refuse-requires
unfolding kind_number
refuse-requires c = search rules

pub returns : goal.returns
unfolding kind_number
returns c = search tagged_ways
