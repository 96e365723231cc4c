use mathlib.Core.Path.{ap}
use mathlib.Core.Bool.{not}
use native.Mathlib.Omega.{arith}
use Rattle.printer.proofs.PrintWays.{item-within}
use Rattle.pass_parts.proofs.PartCode.{told-lost}
use Rattle.printing.proofs.PassCode.{run-start, run-within, run_full, run_stop, run_less, run_on, run_end, leaf-told, other-told, leaf_room, block_inside, two_more, leaf-more, at-within, head-room, headed_by, array_told, map-told, tag-told}
use Rattle.printing.proofs.one_pass.+array_branch_items_map_one_tag.Goals as goal

pub array-items-part-requires : goal.array-items-part-requires
array-items-part-requires t c = (omega arith, (search item-within, omega arith))

pub array-returns : goal.array-returns
array-returns t c = search array_told

pub branch-returns-in_err-end : goal.branch-returns-in_err-end
branch-returns-in_err-end t c = rw c.from_residual.ensures (search told-lost)

pub branch-odd-requires : goal.branch-odd-requires
branch-odd-requires t c = record { within = search at-within; pos_in_bounds = omega arith }

pub branch-head_argument-n-requires : goal.branch-head_argument-n-requires
branch-head_argument-n-requires t c = let w = c.in_ok-end.was {u = tt} in search head-room

pub branch-array-requires : goal.branch-array-requires
branch-array-requires t c = let w = c.in_ok-end.was {u = tt} in (omega arith, (omega arith, (omega arith, (search headed_by, omega arith))))

pub branch-map-requires : goal.branch-map-requires
branch-map-requires t c = let w = c.in_ok-end.was {u = tt} in (omega arith, (omega arith, (omega arith, (search headed_by, omega arith))))

pub branch-tag-requires : goal.branch-tag-requires
branch-tag-requires t c = let w = c.in_ok-end.was {u = tt} in (omega arith, (omega arith, (omega arith, (search headed_by, omega arith))))

pub branch-odd-requires-in_default : goal.branch-odd-requires-in_default
branch-odd-requires-in_default t c = record { within = search at-within; pos_in_bounds = omega arith }

pub items-loop-out-init : goal.items-loop-out-init
items-loop-out-init t c = search run-start

pub items-returns-then-not-has_space : goal.items-returns-then-not-has_space
items-returns-then-not-has_space t c = search run_full

pub items-separator-q-requires : goal.items-separator-q-requires
items-separator-q-requires t c = two_more c.has_space.ensures (ap not c.if-not-has_space.false)

pub items-one-requires : goal.items-one-requires
items-one-requires t c = (omega arith, (search run-within, leaf-more c.has_space.ensures (ap not c.if-not-has_space.false) c.separator-q.ensures.laid c.separator-q.ensures.upper_bound))

pub items-returns-in_err-part : goal.items-returns-in_err-part
items-returns-in_err-part t c = search run_stop

pub items-loop-out-smaller : goal.items-loop-out-smaller
items-loop-out-smaller t c = search (run_less, c.in_ok-part.ensures)

pub items-loop-out-preserved : goal.items-loop-out-preserved
items-loop-out-preserved t c = search (run_on, c.in_ok-part.ensures)

pub items-returns : goal.items-returns
items-returns t c = search run_end

pub map-odd-requires : goal.map-odd-requires
map-odd-requires t c = record { within = search at-within; pos_in_bounds = omega arith }

pub map-returns-then-n-gt-MOST : goal.map-returns-then-n-gt-MOST
map-returns-then-n-gt-MOST t c = search told-lost

pub map-items-part-requires : goal.map-items-part-requires
map-items-part-requires t c = (omega arith, (search item-within, omega arith))

pub map-returns : goal.map-returns
map-returns t c = search map-told

pub one-leaf-requires : goal.one-leaf-requires
one-leaf-requires t c = search leaf_room

pub one-returns-in-Some : goal.one-returns-in-Some
one-returns-in-Some t c = search (leaf-told, c.in-Some.ensures)

pub one-branch-bytes-requires : goal.one-branch-bytes-requires
one-branch-bytes-requires t c = (omega arith, (search block_inside, omega arith))

pub one-returns : goal.one-returns
one-returns t c = search other-told

pub tag-returns-then-info-eq-INDEFINITE_LENGTH : goal.tag-returns-then-info-eq-INDEFINITE_LENGTH
tag-returns-then-info-eq-INDEFINITE_LENGTH t c = search told-lost

pub tag-odd-requires : goal.tag-odd-requires
tag-odd-requires t c = record { within = search at-within; pos_in_bounds = omega arith }

pub tag-items-part-requires : goal.tag-items-part-requires
tag-items-part-requires t c = (omega arith, (search item-within, omega arith))

pub tag-returns : goal.tag-returns
tag-returns t c = search tag-told
