-- `opening::opening_at` meets its contract.
-- Assumes nothing.
use Rattle.opening.proofs.Openers.{tag-first, tag-here}
use Rattle.opening.proofs.opening_at.Goals as goal

pub overflow_add-shortest_info : goal.overflow_add-shortest_info
overflow_add-shortest_info c = search tag-first

pub returns-in-Tag : goal.returns-in-Tag
returns-in-Tag c = search tag-here
