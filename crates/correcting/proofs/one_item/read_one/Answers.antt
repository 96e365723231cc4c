-- `correcting::one_item::read_one` meets its contract.
-- Assumes nothing.
use Rattle.std.proofs.lemmas.Result.{err_from_is_err_and}
use borrow.Author.Rules.{rules}
use Rattle.refusal.specs.RefusalKinds.{kind_number}
use Rattle.encoding.proofs.Telling.{made_inside}
use Rattle.correcting.proofs.ReadOne.{one-room, one_ways}
use Rattle.correcting.proofs.one_item.read_one.Goals as goal

pub skip-first-requires : goal.skip-first-requires
unfolding kind_number
skip-first-requires c = search rules

pub refuse-requires : goal.refuse-requires
unfolding kind_number
refuse-requires c = search rules

pub returns-then-first-ne0 : goal.returns-then-first-ne0
unfolding kind_number
returns-then-first-ne0 c = search one_ways

pub single-requires : goal.single-requires
unfolding kind_number
single-requires c = search one-room

pub alone-requires : goal.alone-requires
unfolding kind_number
alone-requires c = let w = c.in_ok-m.was {u = tt} in search made_inside

pub shape_of-buf-in_err-m : goal.shape_of-buf-in_err-m
unfolding kind_number
shape_of-buf-in_err-m c = search rules

pub returns-in_err-m : goal.returns-in_err-m
unfolding kind_number
returns-in_err-m c = let w = c.in_err-m.was {u = tt} in let p = err_from_is_err_and c.from_residual.result c.from_residual.ensures.1 in rw (p.1, p.2) (search one_ways)

pub shape_of-buf : goal.shape_of-buf
unfolding kind_number
shape_of-buf c = let w = c.in_ok-m.was {u = tt} in search rules

pub returns : goal.returns
unfolding kind_number
returns c = let w = c.in_ok-m.was {u = tt} in search one_ways
