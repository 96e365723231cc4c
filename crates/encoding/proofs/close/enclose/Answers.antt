-- `encoding::close::enclose` meets its contract.
-- Assumes nothing.
use borrow.Author.Rules.{rules}
use Rattle.refusal.specs.RefusalKinds.{kind_number}
use Rattle.encoding.proofs.ReadSmall.{enclose_ways, room-place, head-place, enclose_size}
use Rattle.encoding.proofs.close.enclose.Goals as goal

pub choose-width-requires : goal.choose-width-requires
unfolding kind_number
choose-width-requires c = search rules

pub refuse-requires : goal.refuse-requires
unfolding kind_number
refuse-requires c = search rules

pub returns-then-width-eq-MISFIT : goal.returns-then-width-eq-MISFIT
unfolding kind_number
returns-then-width-eq-MISFIT c = search enclose_ways

pub overflow_mul-first : goal.overflow_mul-first
unfolding kind_number
overflow_mul-first c = search rules

pub info_by-requires : goal.info_by-requires
unfolding kind_number
info_by-requires c = search rules

pub overflow_add-first : goal.overflow_add-first
unfolding kind_number
overflow_add-first c = search rules

pub head_size-head-requires : goal.head_size-head-requires
unfolding kind_number
head_size-head-requires c = search rules

pub overflow_add-pos : goal.overflow_add-pos
unfolding kind_number
overflow_add-pos c = search room-place

pub overflow_add-pos-2 : goal.overflow_add-pos-2
unfolding kind_number
overflow_add-pos-2 c = search head-place

pub move_part-requires : goal.move_part-requires
unfolding kind_number
move_part-requires c = search rules

pub write_head-requires : goal.write_head-requires
unfolding kind_number
write_head-requires c = search rules

pub overflow_add-head : goal.overflow_add-head
unfolding kind_number
overflow_add-head c = search enclose_size

pub done-requires : goal.done-requires
unfolding kind_number
done-requires c = search rules

pub shape_of-buf : goal.shape_of-buf
unfolding kind_number
shape_of-buf c = search rules

pub returns : goal.returns
unfolding kind_number
returns c = search enclose_ways
