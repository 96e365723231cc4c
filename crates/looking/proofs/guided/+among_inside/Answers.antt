-- The cycle of a walk that a path guides meets its contracts.
-- Assumes nothing.
use native.Mathlib.Omega.{arith}
use Rattle.looking.proofs.Guiding.{among_at as at-below, among_behind, among_ways, inside-room, inside_ways}
use Rattle.looking.proofs.guided.+among_inside.Goals as goal

pub among-returns-then-bytes-at : goal.among-returns-then-bytes-at
among-returns-then-bytes-at t c = search among_ways

pub among-returns-then-is_over : goal.among-returns-then-is_over
among-returns-then-is_over t c = search among_ways

pub among-inside-requires : goal.among-inside-requires
among-inside-requires t c = (omega arith, search at-below)

pub among-past_items-end-requires : goal.among-past_items-end-requires
among-past_items-end-requires t c = let w = c.in_ok-inner.was {u = tt} in search among_behind

pub among-returns-then-bytes-end : goal.among-returns-then-bytes-end
among-returns-then-bytes-end t c = search among_ways

pub among-returns-in_err-inner : goal.among-returns-in_err-inner
among-returns-in_err-inner t c = let w = c.in_err-inner.was {u = tt} in rw c.from_residual.ensures (search among_ways)

pub among-returns : goal.among-returns
among-returns t c = let w = c.in_ok-inner.was {u = tt} in search among_ways

pub inside-returns-then-path-eq0 : goal.inside-returns-then-path-eq0
inside-returns-then-path-eq0 t c = search inside_ways

pub inside-returns-then-levels-eq0 : goal.inside-returns-then-levels-eq0
inside-returns-then-levels-eq0 t c = search inside_ways

pub inside-among-requires : goal.inside-among-requires
inside-among-requires t c = (omega arith, search inside-room)

pub inside-returns-then-h-eq-ARRAY : goal.inside-returns-then-h-eq-ARRAY
inside-returns-then-h-eq-ARRAY t c = search inside_ways

pub inside-returns-then-h-ne-MAP : goal.inside-returns-then-h-ne-MAP
inside-returns-then-h-ne-MAP t c = search inside_ways

pub inside-among-requires-in-Counted : goal.inside-among-requires-in-Counted
inside-among-requires-in-Counted t c = (omega arith, search inside-room)

pub inside-returns-in_default : goal.inside-returns-in_default
inside-returns-in_default t c = search inside_ways

pub inside-returns-in-Counted : goal.inside-returns-in-Counted
inside-returns-in-Counted t c = search inside_ways

pub inside-returns-in_default-mode : goal.inside-returns-in_default-mode
inside-returns-in_default-mode t c = search inside_ways

pub inside-returns-in_default-mode-2 : goal.inside-returns-in_default-mode-2
inside-returns-in_default-mode-2 t c = search inside_ways
