-- `decimals::goes_on` meets its contract.
-- Assumes nothing.
use native.Mathlib.Omega.{arith}
use Rattle.decimals.proofs.DigitCode.{on_not}
use Rattle.decimals.proofs.goes_on.Goals as goal

pub returns-else-matches : goal.returns-else-matches
returns-else-matches c = on_not {b = c.args.b} c.is_digit.result c.is_digit.ensures (grind arith) (grind arith) (grind arith) (grind arith) (grind arith) (grind arith) (grind arith) (grind arith)
