-- `quoted::read_quoted` meets its contract.
-- Assumes nothing.
use mathlib.Core.Path.{refl}
use native.Mathlib.Omega.{arith}
use Rattle.quoted.proofs.QuotedPieces.{read-start, read-on, read-wrong, quotes_wrong, read_ways}
use Rattle.quoted.proofs.read_quoted.Goals as goal

pub loop-i-init : goal.loop-i-init
loop-i-init c = search read-start

pub returns-then-b-quote : goal.returns-then-b-quote
returns-then-b-quote c = search read_ways

pub returns-in_err-m-clause-scans : goal.returns-in_err-m-clause-scans
returns-in_err-m-clause-scans c = rw c.from_residual.ensures (read-wrong c.loop-i.invariant c.in_err-m.ensures)

pub returns-in_err-m-clause-quotes : goal.returns-in_err-m-clause-quotes
returns-in_err-m-clause-quotes c = quotes_wrong c.loop-i.invariant c.in_err-m.ensures

pub overflow_add-size : goal.overflow_add-size
overflow_add-size c = let g = c.in_ok-m.ensures.good _ refl in omega arith

pub loop-i-smaller : goal.loop-i-smaller
loop-i-smaller c = let g = c.in_ok-m.ensures.good _ refl in omega arith

pub loop-i-preserved : goal.loop-i-preserved
loop-i-preserved c = read-on c.loop-i.invariant c.in_ok-m.ensures

pub returns : goal.returns
returns c = search read_ways
