-- `closing::followed` meets its contract.
-- Assumes nothing.
use native.Mathlib.Omega.{arith}
use Rattle.closing.proofs.Closers.{room-here, several_still, follow_ways}
use Rattle.closing.proofs.followed.Goals as goal

pub returns-then-is_single : goal.returns-then-is_single
returns-then-is_single c = search follow_ways

pub separates-requires : goal.separates-requires
separates-requires c = search room-here

pub overflow_add-from : goal.overflow_add-from
overflow_add-from c = record { fits = omega (arith, c.separates.ensures.inside c.if-separates.true) }

pub returns-then-separates : goal.returns-then-separates
returns-then-separates c = search follow_ways

pub closes_at_once-requires : goal.closes_at_once-requires
closes_at_once-requires c = search room-here

pub overflow_add-from-then-closes_at_once : goal.overflow_add-from-then-closes_at_once
overflow_add-from-then-closes_at_once c = record { fits = omega (arith, c.closes_at_once.ensures.inside c.if-closes_at_once.true) }

pub returns-then-closes_at_once : goal.returns-then-closes_at_once
returns-then-closes_at_once c = search follow_ways

pub behind_blanks-requires-clause-closer_value : goal.behind_blanks-requires-clause-closer_value
behind_blanks-requires-clause-closer_value c = search several_still
