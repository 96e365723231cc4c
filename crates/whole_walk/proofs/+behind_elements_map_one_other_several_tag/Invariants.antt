-- The functions of the cycle meet their contracts: each way to a return is a lemma.
-- Assumes nothing.
use Rattle.walk_answer.proofs.WalkCycle.{Run}
use lib.ListN.{length}
use Prim.Native.Nat.{suc, ◌+◌, ◌-◌, ◌*◌}
use Rattle.walk_answer.specs.WalkAnswers.{until_by}
use Rattle.whole_walk.proofs.+behind_elements_map_one_other_several_tag.Given as goal

abbrev pub decreases-behind : goal.decreases-behind
decreases-behind l = 100 * l.levels + 20

abbrev pub decreases-elements : goal.decreases-elements
decreases-elements l = 100 * l.levels + 22

abbrev pub decreases-map : goal.decreases-map
decreases-map l = 100 * l.levels + 27

abbrev pub decreases-one : goal.decreases-one
decreases-one l = 100 * l.levels + 21

abbrev pub decreases-other : goal.decreases-other
decreases-other l = 100 * l.levels + 5 * l.major

abbrev pub decreases-several : goal.decreases-several
decreases-several l = 100 * l.levels + 5 * l.major + 1

abbrev pub decreases-tag : goal.decreases-tag
decreases-tag l = 100 * l.levels + 30

abbrev pub invariant-several-loop-at : goal.invariant-several-loop-at
invariant-several-loop-at l = Run l.major (suc l.levels) l.bytes (until_by l.mode l.count) l.at l.size (until_by l.mode l.left)

abbrev pub decreases-several-loop-at : goal.decreases-several-loop-at
decreases-several-loop-at l = length l.bytes - l.at

abbrev pub invariant-elements-loop-at : goal.invariant-elements-loop-at
invariant-elements-loop-at l = Run 4 (suc l.levels) l.bytes (until_by l.mode l.count) l.at l.size (until_by l.mode l.left)

abbrev pub decreases-elements-loop-at : goal.decreases-elements-loop-at
decreases-elements-loop-at l = length l.bytes - l.at
