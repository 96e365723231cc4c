use native.Mathlib.Omega.{arith}
use Rattle.opening.proofs.Openers.{bare_ways}
use Rattle.opening.proofs.opens_bare.Goals as goal

pub overflow_add-at : goal.overflow_add-at
overflow_add-at c = record { fits = omega (arith, c.next_is.ensures.inside c.if-next_is.true) }

pub returns-then-next_is : goal.returns-then-next_is
returns-then-next_is c = search bare_ways

pub returns : goal.returns
returns c = search bare_ways
