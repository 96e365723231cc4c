-- `quick_walk::string` meets its contract.
-- Assumes nothing.
use Rattle.quick_walk.proofs.QuickWays.{quick_not, string-end, string-some, string-inside, string_add, string_halves, string_ways}
use Rattle.quick_walk.proofs.string.Goals as goal

pub overflow_sub-bytes : goal.overflow_sub-bytes
overflow_sub-bytes c = search string-end

pub returns-then-bytes-end : goal.returns-then-bytes-end
returns-then-bytes-end c = search quick_not

pub overflow_add-behind : goal.overflow_add-behind
overflow_add-behind c = search string_add

pub slice_bounds-is_text-end : goal.slice_bounds-is_text-end
slice_bounds-is_text-end c = search string-inside

pub bounds-bytes-0 : goal.bounds-bytes-0
bounds-bytes-0 c = search string-some

pub pack-requires : goal.pack-requires
pack-requires c = search string_halves

pub returns-then-is_text : goal.returns-then-is_text
returns-then-is_text c = search string_ways

pub returns : goal.returns
returns c = search quick_not
