-- The printers meet their contracts: each way to a return is a lemma of `PrintWays` or, for the loop, of `PrintSeveral`.
-- Assumes nothing.
use native.Mathlib.Omega.{arith}
use Rattle.printer.proofs.PrintSeveral.{turn_start, turn_less, turn_stuck, turn_on, turn_end}
use Rattle.printer.proofs.PrintCycle.{headed}
use Rattle.printer.proofs.PrintWays.{item-lost, item-within, item_ways, below_ways, one_ways, entry_whole, tag-whole, container_whole, chunked-empty, chunked_full}
use Rattle.printer.proofs.+behind_below_chunked_container_entry_one_print_item_several_tag.Goals as goal

pub behind-returns-then-major-le-NEGATIVE_INTEGER : goal.behind-returns-then-major-le-NEGATIVE_INTEGER
behind-returns-then-major-le-NEGATIVE_INTEGER t c = search item_ways

pub behind-chunked-requires : goal.behind-chunked-requires
behind-chunked-requires t c = (omega arith, search item-within)

pub behind-returns-then-h-eq-INDEFINITE_LENGTH : goal.behind-returns-then-h-eq-INDEFINITE_LENGTH
behind-returns-then-h-eq-INDEFINITE_LENGTH t c = search item_ways

pub behind-string-requires : goal.behind-string-requires
behind-string-requires t c = search item-within

pub behind-returns-then-major-le-TEXT_STRING : goal.behind-returns-then-major-le-TEXT_STRING
behind-returns-then-major-le-TEXT_STRING t c = search item_ways

pub behind-container-requires : goal.behind-container-requires
behind-container-requires t c = (omega arith, search item-within)

pub behind-returns-then-major-le-MAP : goal.behind-returns-then-major-le-MAP
behind-returns-then-major-le-MAP t c = search item_ways

pub behind-returns-then-major-eq-TAG : goal.behind-returns-then-major-eq-TAG
behind-returns-then-major-eq-TAG t c = search item_ways

pub behind-returns : goal.behind-returns
behind-returns t c = search item_ways

pub below-returns-then-levels-eq0 : goal.below-returns-then-levels-eq0
below-returns-then-levels-eq0 t c = search below_ways

pub below-returns : goal.below-returns
below-returns t c = search below_ways

pub chunked-returns-then-is_over : goal.chunked-returns-then-is_over
chunked-returns-then-is_over t c = search chunked-empty

pub chunked-returns : goal.chunked-returns
chunked-returns t c = search chunked_full

pub container-returns : goal.container-returns
container-returns t c = search container_whole

pub entry-returns : goal.entry-returns
entry-returns t c = search entry_whole

pub one-returns-then-major-eq-ARRAY : goal.one-returns-then-major-eq-ARRAY
one-returns-then-major-eq-ARRAY t c = search one_ways

pub one-returns-then-major-eq-MAP : goal.one-returns-then-major-eq-MAP
one-returns-then-major-eq-MAP t c = search one_ways

pub one-returns : goal.one-returns
one-returns t c = search one_ways

pub print_item-behind-requires : goal.print_item-behind-requires
print_item-behind-requires t c = (omega arith, search headed)

pub print_item-returns-in-Err : goal.print_item-returns-in-Err
print_item-returns-in-Err t c = search item-lost

pub several-loop-out-init : goal.several-loop-out-init
several-loop-out-init t c = search turn_start

pub several-returns-then-not-moves : goal.several-returns-then-not-moves
several-returns-then-not-moves t c = search turn_stuck

pub several-loop-out-smaller : goal.several-loop-out-smaller
several-loop-out-smaller t c = search turn_less

pub several-loop-out-preserved : goal.several-loop-out-preserved
several-loop-out-preserved t c = search turn_on

pub several-returns : goal.several-returns
several-returns t c = search turn_end

pub tag-returns : goal.tag-returns
tag-returns t c = search tag-whole
