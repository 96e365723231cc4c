-- `decimals::digits` meets its contract.
-- Assumes nothing.
use Rattle.decimals.specs.DigitParts.{Tally}
use Rattle.decimals.proofs.digits.Given as goal

abbrev pub invariant-loop-end : goal.invariant-loop-end
invariant-loop-end l = Tally l.text l.from l.first l.end l.value
