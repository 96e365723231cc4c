-- `words::plain_decimal` meets its contract.
-- Assumes nothing.
use native.Mathlib.Omega.{arith}
use Rattle.words.proofs.WordCode.{plain_none, plain_one, plain_more}
use Rattle.words.proofs.plain_decimal.Goals as goal

pub returns-in-0 : goal.returns-in-0
returns-in-0 c = plain_none c.requires c.in-0.is

pub returns-in-1 : goal.returns-in-1
returns-in-1 c = plain_one c.requires c.in-1.is

pub returns-in_default : goal.returns-in_default
returns-in_default c = plain_more c.requires (λ e. omega arith) (λ e. omega arith)
