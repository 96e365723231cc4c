-- `opening::by_byte` meets its contract.
-- Assumes nothing.
use native.Mathlib.Omega.{arith}
use Rattle.opening.proofs.Openers.{at-square, at-curly, embeds-here}
use Rattle.opening.proofs.by_byte.Goals as goal

pub bracket-requires : goal.bracket-requires
bracket-requires c = search at-square

pub bracket-requires-then-next_is-2 : goal.bracket-requires-then-next_is-2
bracket-requires-then-next_is-2 c = search at-curly

pub overflow_add-at : goal.overflow_add-at
overflow_add-at c = record { fits = omega (arith, c.next_is-3.ensures.inside c.if-next_is-3.true) }

pub overflow_add-at-then-next_is-4 : goal.overflow_add-at-then-next_is-4
overflow_add-at-then-next_is-4 c = record { fits = omega (arith, c.next_is-then-next_is-3.ensures.inside c.if-next_is-4.true) }

pub returns-then-next_is-4 : goal.returns-then-next_is-4
returns-then-next_is-4 c = search embeds-here
