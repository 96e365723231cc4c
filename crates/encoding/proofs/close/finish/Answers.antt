-- `encoding::close::finish` meets its contract.
-- Assumes nothing.
use borrow.Author.Rules.{rules}
use Rattle.refusal.specs.RefusalKinds.{kind_number}
use Rattle.encoding.proofs.ReadSmall.{finish_ways, heavy_mul, finish_first, finish_size}
use Rattle.encoding.proofs.close.finish.Goals as goal

pub choose-width-requires : goal.choose-width-requires
unfolding kind_number
choose-width-requires c = search rules

pub refuse-requires : goal.refuse-requires
unfolding kind_number
refuse-requires c = search rules

pub returns-then-width-eq-MISFIT : goal.returns-then-width-eq-MISFIT
unfolding kind_number
returns-then-width-eq-MISFIT c = search finish_ways

pub overflow_mul-first : goal.overflow_mul-first
unfolding kind_number
overflow_mul-first c = search heavy_mul

pub info_by-requires : goal.info_by-requires
unfolding kind_number
info_by-requires c = search rules

pub overflow_add-first : goal.overflow_add-first
unfolding kind_number
overflow_add-first c = search finish_first

pub put_before-head-requires : goal.put_before-head-requires
unfolding kind_number
put_before-head-requires c = search rules

pub overflow_add-head : goal.overflow_add-head
unfolding kind_number
overflow_add-head c = search finish_size

pub done-requires : goal.done-requires
unfolding kind_number
done-requires c = search rules

pub shape_of-buf : goal.shape_of-buf
unfolding kind_number
shape_of-buf c = search rules

pub returns : goal.returns
unfolding kind_number
returns c = search finish_ways
