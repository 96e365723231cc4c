use native.Mathlib.Omega.{arith}
use Rattle.closing.proofs.Closers.{skip-inside, blank_ways}
use Rattle.closing.proofs.behind_blanks.Goals as goal

pub separates-requires : goal.separates-requires
separates-requires c = search skip-inside

pub overflow_add-at : goal.overflow_add-at
overflow_add-at c = record { fits = omega (arith, skip-inside c.skip-here.ensures) }

pub returns-then-separates : goal.returns-then-separates
returns-then-separates c = search blank_ways

pub returns-then-key : goal.returns-then-key
returns-then-key c = search blank_ways

pub closes-requires : goal.closes-requires
closes-requires c = search skip-inside

pub returns : goal.returns
returns c = search blank_ways
