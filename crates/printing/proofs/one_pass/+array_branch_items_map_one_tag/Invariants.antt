use Prim.Native.Nat.{◌+◌, ◌-◌, ◌*◌}
use lib.ListN.{length}
use Rattle.printing.proofs.PassCode.{Run}
use Rattle.printing.proofs.one_pass.+array_branch_items_map_one_tag.Given as goal

abbrev pub decreases-array : goal.decreases-array
decreases-array l = 8 * l.levels + 1

abbrev pub decreases-branch : goal.decreases-branch
decreases-branch l = 8 * l.levels + 2

abbrev pub decreases-items : goal.decreases-items
decreases-items l = 8 * l.levels + 4

abbrev pub decreases-map : goal.decreases-map
decreases-map l = 8 * l.levels + 1

abbrev pub decreases-one : goal.decreases-one
decreases-one l = 8 * l.levels + 3

abbrev pub decreases-tag : goal.decreases-tag
decreases-tag l = 8 * l.levels + 1

abbrev pub invariant-items-loop-out : goal.invariant-items-loop-out
invariant-items-loop-out l = Run l.bytes l.from l.mode l.count l.map l.blank l.levels l.initial.out l.pos l.at l.left l.p l.first l.out

abbrev pub decreases-items-loop-out : goal.decreases-items-loop-out
decreases-items-loop-out l = length l.bytes - l.at
