-- `amounts::count_digits` meets its contract.
-- Assumes nothing.
use Rattle.amounts.proofs.AmountCode.{Tallying}
use Rattle.amounts.proofs.count_digits.Given as goal

abbrev pub invariant-loop-next : goal.invariant-loop-next
invariant-loop-next l = Tallying l.text l.from l.radix l.first l.next l.amount
