-- `numbers::number::judged` meets its contract.
-- Assumes nothing.
use Rattle.numbers.proofs.NumberCode.{judge_ways}
use Rattle.numbers.proofs.number.judged.Goals as goal

pub returns-then-over : goal.returns-then-over
returns-then-over c = search judge_ways

pub returns-then-width-eq-MISFIT : goal.returns-then-width-eq-MISFIT
returns-then-width-eq-MISFIT c = search judge_ways

pub returns : goal.returns
returns c = search judge_ways
