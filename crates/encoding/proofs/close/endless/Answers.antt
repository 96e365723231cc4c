-- `encoding::close::endless` meets its contract.
-- Assumes nothing.
use Rattle.encoding.proofs.ReadWriting.{ended-place, ended-break, ended-size, ended_is}
use Rattle.encoding.proofs.close.endless.Goals as goal

pub overflow_add-pos : goal.overflow_add-pos
overflow_add-pos c = search ended-place

pub overflow_add-pos-2 : goal.overflow_add-pos-2
overflow_add-pos-2 c = search ended-break

pub overflow_add-size : goal.overflow_add-size
overflow_add-size c = search ended-size

pub returns : goal.returns
returns c = search ended_is
