-- `scanning::class::is_blank` meets its contract.
-- Assumes nothing.
use mathlib.Core.Logic.{inl, inr}
use native.Mathlib.Omega.{arith}
use Rattle.scanning.proofs.ClassCode.{blank_tabs, blank_return, blank-space, blank_none}
use Rattle.scanning.proofs.class.is_blank.Goals as goal

pub returns-in-9 : goal.returns-in-9
returns-in-9 c = elim c.in-9.is [ inl e ↦ blank_tabs {b = c.args.b} (omega (arith, e)) (omega (arith, e)) | inr (inl e) ↦ blank_return e | inr (inr e) ↦ blank-space e ]

pub returns-in-10 : goal.returns-in-10
returns-in-10 c = blank_tabs {b = c.args.b} (omega arith) (omega arith)

pub returns-in_default : goal.returns-in_default
returns-in_default c = blank_none {b = c.args.b} (omega arith) (grind arith) (grind arith) (grind arith) (grind arith)
