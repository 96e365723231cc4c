-- `printing::one_pass::print_all` meets its contract.
-- Assumes nothing.
use mathlib.Core.Path.{sym, ◌∙◌}
use native.Mathlib.Omega.{arith}
use borrow.Author.Tests.{eqb-false}
use Rattle.printing.proofs.PassCode.{pass_all}
use Rattle.printing.proofs.one_pass.print_all.Goals as goal

pub returns : goal.returns
returns c = pass_all (eqb-false _ _ (sym c.is_empty.ensures ∙ c.if-is_empty.false)) (omega arith) c.items-all.ensures c.in_ok-text.ensures
