-- `amounts::makes_float` meets its contract.
-- Assumes nothing.
use native.Mathlib.Omega.{arith}
use Rattle.amounts.proofs.AmountCode.{float_ten, float_ten_none, float_sixteen, float_sixteen_none, float-other}
use Rattle.amounts.proofs.makes_float.Goals as goal

pub returns-in-46 : goal.returns-in-46
returns-in-46 c = float_ten c.args.radix c.args.b c.in-10.is c.in-46.is

pub returns-in_default-matches : goal.returns-in_default-matches
returns-in_default-matches c = float_ten_none c.args.radix c.args.b c.in-10.is (grind arith) (grind arith) (grind arith)

pub returns-in-46-matches : goal.returns-in-46-matches
returns-in-46-matches c = float_sixteen c.args.radix c.args.b c.in-16.is c.in-46-matches.is

pub returns-in_default-matches-2 : goal.returns-in_default-matches-2
returns-in_default-matches-2 c = float_sixteen_none c.args.radix c.args.b c.in-16.is (grind arith) (grind arith) (grind arith)

pub returns-in_default : goal.returns-in_default
returns-in_default c = float-other c.args.radix c.args.b (omega arith) (omega arith)
