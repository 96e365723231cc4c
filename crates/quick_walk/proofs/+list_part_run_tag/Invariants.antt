-- The functions of the quick way meet their contracts: each way to a return is a lemma.
-- Assumes nothing.
use Rattle.walk_answer.proofs.WalkCycle.{Run}
use lib.ListN.{length}
use Prim.Native.Nat.{suc, ◌+◌, ◌-◌, ◌*◌}
use Rattle.walk_answer.specs.WalkAnswers.{until_by}
use Rattle.quick_walk.proofs.+list_part_run_tag.Given as goal

abbrev pub decreases-list : goal.decreases-list
decreases-list l = 10 * l.levels + 1

abbrev pub decreases-part : goal.decreases-part
decreases-part l = 10 * l.levels + 2

abbrev pub decreases-run : goal.decreases-run
decreases-run l = 10 * l.levels + 3

abbrev pub decreases-tag : goal.decreases-tag
decreases-tag l = 10 * l.levels + 1

abbrev pub invariant-run-loop-left : goal.invariant-run-loop-left
invariant-run-loop-left l = Run 4 (suc l.levels) l.bytes (until_by l.mode l.count) l.at l.size (until_by l.mode l.left)

abbrev pub decreases-run-loop-left : goal.decreases-run-loop-left
decreases-run-loop-left l = length l.bytes - l.at
