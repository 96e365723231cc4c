-- `escapes::escaped` meets its contract.
-- Assumes nothing.
use native.Mathlib.Omega.{arith}
use Rattle.escapes.proofs.EscapeCode.{escaped_ways, escaped_itself, escaped_none}
use Rattle.escapes.proofs.escaped.Goals as goal

pub returns-in-92 : goal.returns-in-92
returns-in-92 c = escaped_itself c.in-92.is

pub returns-in-98 : goal.returns-in-98
returns-in-98 c = search escaped_ways

pub returns-in-102 : goal.returns-in-102
returns-in-102 c = search escaped_ways

pub returns-in-110 : goal.returns-in-110
returns-in-110 c = search escaped_ways

pub returns-in-114 : goal.returns-in-114
returns-in-114 c = search escaped_ways

pub returns-in-116 : goal.returns-in-116
returns-in-116 c = search escaped_ways

pub returns-in_default : goal.returns-in_default
returns-in_default c = escaped_none (λ e. grind arith) (λ e. grind arith) (λ e. omega arith) (λ e. omega arith) (λ e. omega arith) (λ e. omega arith) (λ e. omega arith)
