-- The functions of the cycle meet their contracts: each way to a return is a lemma.
-- Assumes nothing.
use Rattle.std.proofs.lemmas.Result.{err_from_is_err_and}
use borrow.Author.Rules.{rules}
use Rattle.walk_parts.proofs.StringCode.{head-room, head-inside}
use Rattle.walk_answer.proofs.WalkCycle.{other_ways, run-start, run_ways, run_less, run_on}
use Rattle.walk_parts.proofs.WalkItems.{tag_turns, behind_ways, map_ways, no-head, one-room, one_inside, one_headed, one_ways}
use native.Mathlib.Omega.{arith}
use Rattle.whole_walk.proofs.+behind_elements_map_one_other_several_tag.Goals as goal

pub behind-slice_bounds-several-count : goal.behind-slice_bounds-several-count
behind-slice_bounds-several-count t c = search head-inside

pub behind-slice_bounds-several-start : goal.behind-slice_bounds-several-start
behind-slice_bounds-several-start t c = search head-inside

pub behind-several-requires : goal.behind-several-requires
behind-several-requires t c = (omega arith, search rules)

pub behind-returns-then-info-eq-INDEFINITE_LENGTH : goal.behind-returns-then-info-eq-INDEFINITE_LENGTH
behind-returns-then-info-eq-INDEFINITE_LENGTH t c = search behind_ways

pub behind-content-requires : goal.behind-content-requires
behind-content-requires t c = search head-room

pub behind-returns-then-major-le-TEXT_STRING : goal.behind-returns-then-major-le-TEXT_STRING
behind-returns-then-major-le-TEXT_STRING t c = search behind_ways

pub behind-returns-then-levels-eq0 : goal.behind-returns-then-levels-eq0
behind-returns-then-levels-eq0 t c = search behind_ways

pub behind-tag-requires : goal.behind-tag-requires
behind-tag-requires t c = (omega arith, search head-room)

pub behind-returns-then-major-eq-TAG : goal.behind-returns-then-major-eq-TAG
behind-returns-then-major-eq-TAG t c = search behind_ways

pub behind-slice_bounds-elements-count : goal.behind-slice_bounds-elements-count
behind-slice_bounds-elements-count t c = search head-inside

pub behind-slice_bounds-elements-start : goal.behind-slice_bounds-elements-start
behind-slice_bounds-elements-start t c = search head-inside

pub behind-elements-requires : goal.behind-elements-requires
behind-elements-requires t c = (omega arith, search rules)

pub behind-returns-then-major-eq-ARRAY : goal.behind-returns-then-major-eq-ARRAY
behind-returns-then-major-eq-ARRAY t c = search behind_ways

pub behind-map-requires : goal.behind-map-requires
behind-map-requires t c = (omega arith, search head-room)

pub behind-returns : goal.behind-returns
behind-returns t c = search behind_ways

pub map-elements-requires : goal.map-elements-requires
map-elements-requires t c = (omega arith, search rules)

pub map-returns-in-Counted : goal.map-returns-in-Counted
map-returns-in-Counted t c = search map_ways

pub map-several-requires : goal.map-several-requires
map-several-requires t c = (omega arith, search rules)

pub map-returns-in_default : goal.map-returns-in_default
map-returns-in_default t c = search map_ways

pub one-headless-requires : goal.one-headless-requires
one-headless-requires t c = search no-head

pub one-returns-in_default : goal.one-returns-in_default
one-returns-in_default t c = search one_ways

pub one-bounds-bytes-0 : goal.one-bounds-bytes-0
one-bounds-bytes-0 t c = search one_inside

pub one-returns-then-major-le-NEGATIVE_INTEGER : goal.one-returns-then-major-le-NEGATIVE_INTEGER
one-returns-then-major-le-NEGATIVE_INTEGER t c = search one_ways

pub one-returns-then-initial : goal.one-returns-then-initial
one-returns-then-initial t c = search one_ways

pub one-returns-then-major-eq-SIMPLE_VALUE : goal.one-returns-then-major-eq-SIMPLE_VALUE
one-returns-then-major-eq-SIMPLE_VALUE t c = search one_ways

pub one-head_argument-requires : goal.one-head_argument-requires
one-head_argument-requires t c = search one-room

pub one-behind-requires : goal.one-behind-requires
one-behind-requires t c = (omega arith, search one_headed)

pub one-returns : goal.one-returns
one-returns t c = search one_ways

pub other-elements-requires : goal.other-elements-requires
other-elements-requires t c = (omega arith, search rules)

pub other-returns-then-major-eq-MAP : goal.other-returns-then-major-eq-MAP
other-returns-then-major-eq-MAP t c = search other_ways

pub other-returns : goal.other-returns
other-returns t c = search other_ways

pub several-loop-at-init : goal.several-loop-at-init
several-loop-at-init t c = search run-start

pub several-other-requires : goal.several-other-requires
several-other-requires t c = (omega arith, search rules)

pub several-returns-in_err-part : goal.several-returns-in_err-part
several-returns-in_err-part t c = let w = c.in_err-part.was {u = tt} in let p = err_from_is_err_and c.from_residual.result c.from_residual.ensures.1 in rw (p.1, p.2) (search run_ways)

pub several-loop-at-smaller : goal.several-loop-at-smaller
several-loop-at-smaller t c = let w = c.in_ok-part.was {u = tt} in search run_less

pub several-loop-at-preserved : goal.several-loop-at-preserved
several-loop-at-preserved t c = let w = c.in_ok-part.was {u = tt} in search run_on

pub several-returns : goal.several-returns
several-returns t c = search run_ways

pub elements-loop-at-init : goal.elements-loop-at-init
elements-loop-at-init t c = search run-start

pub elements-one-requires : goal.elements-one-requires
elements-one-requires t c = (omega arith, search rules)

pub elements-returns-in_err-part : goal.elements-returns-in_err-part
elements-returns-in_err-part t c = let w = c.in_err-part.was {u = tt} in let p = err_from_is_err_and c.from_residual.result c.from_residual.ensures.1 in rw (p.1, p.2) (search run_ways)

pub elements-loop-at-smaller : goal.elements-loop-at-smaller
elements-loop-at-smaller t c = let w = c.in_ok-part.was {u = tt} in search run_less

pub elements-loop-at-preserved : goal.elements-loop-at-preserved
elements-loop-at-preserved t c = let w = c.in_ok-part.was {u = tt} in search run_on

pub elements-returns : goal.elements-returns
elements-returns t c = search run_ways

pub tag-elements-requires : goal.tag-elements-requires
tag-elements-requires t c = (omega arith, search rules)

pub tag-returns-then-may_tag : goal.tag-returns-then-may_tag
tag-returns-then-may_tag t c = let w = c.in_ok-inner.was {u = tt} in search tag_turns

pub tag-returns-in_err-inner : goal.tag-returns-in_err-inner
tag-returns-in_err-inner t c = let w = c.in_err-inner.was {u = tt} in let p = err_from_is_err_and c.from_residual.result c.from_residual.ensures.1 in rw (p.1, p.2) (search tag_turns)

pub tag-returns : goal.tag-returns
tag-returns t c = let w = c.in_ok-inner.was {u = tt} in search tag_turns
