-- The printers meet their contracts: each way to a return is a lemma of `PrintWays` or, for the loop, of `PrintSeveral`.
-- Assumes nothing.
use Prim.Native.Nat.{◌+◌, ◌-◌, ◌*◌}
use lib.ListN.{length}
use Rattle.printer.proofs.PrintSeveral.{Turns}
use Rattle.printer.proofs.+behind_below_chunked_container_entry_one_print_item_several_tag.Given as goal

abbrev pub decreases-behind : goal.decreases-behind
decreases-behind l = 8 * l.levels + 6

abbrev pub decreases-below : goal.decreases-below
decreases-below l = 8 * l.levels + 1

abbrev pub decreases-chunked : goal.decreases-chunked
decreases-chunked l = 8 * l.levels + 5

abbrev pub decreases-container : goal.decreases-container
decreases-container l = 8 * l.levels + 5

abbrev pub decreases-entry : goal.decreases-entry
decreases-entry l = 8 * l.levels + 2

abbrev pub decreases-one : goal.decreases-one
decreases-one l = 8 * l.levels + 3

abbrev pub decreases-print_item : goal.decreases-print_item
decreases-print_item l = 8 * l.levels + 7

abbrev pub decreases-several : goal.decreases-several
decreases-several l = 8 * l.levels + 4

abbrev pub decreases-tag : goal.decreases-tag
decreases-tag l = 8 * l.levels + 5

abbrev pub invariant-several-loop-out : goal.invariant-several-loop-out
invariant-several-loop-out l = Turns l.bytes l.initial.out l.from l.mode l.count l.major l.levels l.blank l.pos l.at l.left l.p l.first l.out

abbrev pub decreases-several-loop-out : goal.decreases-several-loop-out
decreases-several-loop-out l = length l.bytes - l.at
