-- What is left at most: where it is not counted, any number says as much.
-- Assumes nothing.
use Rattle.quick_walk.proofs.LeafRun.{not_counted}
use Rattle.quick_walk.proofs.most_left.Goals as goal

pub returns-in_default : goal.returns-in_default
returns-in_default c = not_counted c.args.mode 0xffffffffffffffff c.args.count c.in_default.not-Counted
