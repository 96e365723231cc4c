-- `decimal_output::decimal` meets its contract.
-- Assumes nothing.
use Rattle.decimal_output.proofs.+decimal.Given as goal

abbrev pub decreases-decimal : goal.decreases-decimal
decreases-decimal l = l.n
