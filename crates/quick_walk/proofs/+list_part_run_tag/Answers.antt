-- The functions of the quick way meet their contracts: each way to a return is a lemma.
-- Assumes nothing.
use borrow.Author.Rules.{rules}
use Rattle.walk_parts.proofs.WalkItems.{one-room, one_inside}
use Rattle.walk_answer.proofs.WalkCycle.{run-start}
use Rattle.quick_walk.proofs.LeafRun.{leaf-inside, rest_less, rest_add, rest-on}
use Rattle.quick_walk.proofs.QuickWays.{quick_not, quick_end, open_inside, level-some, deeper_small, small-part, small_deeper, shifts_deeper, shifts_open, deeper, list_ways, part_ways, tag_ways, step_add, step-size, step_less, step_going, over_halves, step_ways}
use native.Mathlib.Omega.{arith}
use Rattle.quick_walk.proofs.+list_part_run_tag.Goals as goal

pub list-returns-in_default : goal.list-returns-in_default
list-returns-in_default t c = search quick_not

pub list-bounds-bytes-0 : goal.list-bounds-bytes-0
list-bounds-bytes-0 t c = search one_inside

pub list-bounds-bytes-0-2 : goal.list-bounds-bytes-0-2
list-bounds-bytes-0-2 t c = search one_inside

pub list-head_argument-n-requires : goal.list-head_argument-n-requires
list-head_argument-n-requires t c = search one-room

pub list-slice_bounds-run-count : goal.list-slice_bounds-run-count
list-slice_bounds-run-count t c = search quick_end

pub list-slice_bounds-run-start : goal.list-slice_bounds-run-start
list-slice_bounds-run-start t c = search quick_end

pub list-overflow_sub-levels : goal.list-overflow_sub-levels
list-overflow_sub-levels t c = search (level-some, rules)

pub list-run-requires : goal.list-run-requires
list-run-requires t c = (omega arith, search small_deeper)

pub list-shift-requires : goal.list-shift-requires
list-shift-requires t c = search (shifts_deeper, c.run.ensures)

pub list-returns-then-major-eq-ARRAY : goal.list-returns-then-major-eq-ARRAY
list-returns-then-major-eq-ARRAY t c = search list_ways

pub list-returns-then-major-ne-MAP : goal.list-returns-then-major-ne-MAP
list-returns-then-major-ne-MAP t c = search quick_not

pub list-whole-requires : goal.list-whole-requires
list-whole-requires t c = search deeper_small

pub list-returns-then-n-gt-MOST_ENTRIES : goal.list-returns-then-n-gt-MOST_ENTRIES
list-returns-then-n-gt-MOST_ENTRIES t c = search quick_not

pub list-slice_bounds-run-count-in-Counted : goal.list-slice_bounds-run-count-in-Counted
list-slice_bounds-run-count-in-Counted t c = search quick_end

pub list-slice_bounds-run-start-in-Counted : goal.list-slice_bounds-run-start-in-Counted
list-slice_bounds-run-start-in-Counted t c = search quick_end

pub list-overflow_sub-levels-in-Counted : goal.list-overflow_sub-levels-in-Counted
list-overflow_sub-levels-in-Counted t c = search (level-some, rules)

pub list-run-requires-in-Counted : goal.list-run-requires-in-Counted
list-run-requires-in-Counted t c = (omega arith, search small_deeper)

pub list-shift-requires-in-Counted : goal.list-shift-requires-in-Counted
list-shift-requires-in-Counted t c = search (shifts_deeper, c.run-in-Counted.ensures)

pub list-returns-else-n-gt-MOST_ENTRIES : goal.list-returns-else-n-gt-MOST_ENTRIES
list-returns-else-n-gt-MOST_ENTRIES t c = search list_ways

pub part-returns-then-levels-eq0 : goal.part-returns-then-levels-eq0
part-returns-then-levels-eq0 t c = search quick_not

pub part-slice_bounds-run-count : goal.part-slice_bounds-run-count
part-slice_bounds-run-count t c = search open_inside

pub part-slice_bounds-run-start : goal.part-slice_bounds-run-start
part-slice_bounds-run-start t c = search open_inside

pub part-run-requires : goal.part-run-requires
part-run-requires t c = (omega arith, search small-part)

pub part-shift-requires : goal.part-shift-requires
part-shift-requires t c = search (shifts_open, c.run.ensures)

pub part-returns-then-n-lt-NO_HEAD : goal.part-returns-then-n-lt-NO_HEAD
part-returns-then-n-lt-NO_HEAD t c = search part_ways

pub part-list-requires : goal.part-list-requires
part-list-requires t c = (omega arith, search deeper)

pub part-tag-requires : goal.part-tag-requires
part-tag-requires t c = (omega arith, search deeper)

pub run-loop-left-init : goal.run-loop-left-init
run-loop-left-init t c = rw c.most_left-left.ensures run-start

pub run-bounds-rest-0 : goal.run-bounds-rest-0
run-bounds-rest-0 t c = search leaf-inside

pub run-overflow_add-size : goal.run-overflow_add-size
run-overflow_add-size t c = search rest_add

pub run-loop-left-smaller-then-is_right : goal.run-loop-left-smaller-then-is_right
run-loop-left-smaller-then-is_right t c = search rest_less

pub run-loop-left-preserved-then-is_right : goal.run-loop-left-preserved-then-is_right
run-loop-left-preserved-then-is_right t c = search (rest-on, rules)

pub run-part-r-requires : goal.run-part-r-requires
run-part-r-requires t c = (omega arith, search small-part)

pub run-returns-then-r : goal.run-returns-then-r
run-returns-then-r t c = search quick_not

pub run-overflow_add-at-in-loop-left : goal.run-overflow_add-at-in-loop-left
run-overflow_add-at-in-loop-left t c = search step_add

pub run-overflow_add-size-in-loop-left : goal.run-overflow_add-size-in-loop-left
run-overflow_add-size-in-loop-left t c = search step-size

pub run-loop-left-smaller : goal.run-loop-left-smaller
run-loop-left-smaller t c = search step_less

pub run-loop-left-preserved : goal.run-loop-left-preserved
run-loop-left-preserved t c = search (step_going, rules)

pub run-pack-requires : goal.run-pack-requires
run-pack-requires t c = search over_halves

pub run-returns-then-is_over : goal.run-returns-then-is_over
run-returns-then-is_over t c = search step_ways

pub tag-returns-in_default : goal.tag-returns-in_default
tag-returns-in_default t c = search quick_not

pub tag-bounds-bytes-0 : goal.tag-bounds-bytes-0
tag-bounds-bytes-0 t c = search one_inside

pub tag-whole-requires : goal.tag-whole-requires
tag-whole-requires t c = search deeper_small

pub tag-head_argument-n-requires : goal.tag-head_argument-n-requires
tag-head_argument-n-requires t c = search one-room

pub tag-slice_bounds-run-count : goal.tag-slice_bounds-run-count
tag-slice_bounds-run-count t c = search quick_end

pub tag-slice_bounds-run-start : goal.tag-slice_bounds-run-start
tag-slice_bounds-run-start t c = search quick_end

pub tag-overflow_sub-levels : goal.tag-overflow_sub-levels
tag-overflow_sub-levels t c = search (level-some, rules)

pub tag-run-requires : goal.tag-run-requires
tag-run-requires t c = (omega arith, search small_deeper)

pub tag-shift-r-requires : goal.tag-shift-r-requires
tag-shift-r-requires t c = search (shifts_deeper, c.run.ensures)

pub tag-returns-then-r : goal.tag-returns-then-r
tag-returns-then-r t c = search quick_not

pub tag-returns-then-may_tag : goal.tag-returns-then-may_tag
tag-returns-then-may_tag t c = search tag_ways

pub tag-returns : goal.tag-returns
tag-returns t c = search quick_not
