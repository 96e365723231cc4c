-- `scanning::scan::comment_end` meets its contract.
-- Assumes nothing.
use Rattle.scanning.proofs.ScanCode.{comment_end_ways, comment_none}
use native.Mathlib.Omega.{arith}
use borrow.Author.Rules.{rules}
use Rattle.scanning.proofs.scan.comment_end.Goals as goal

pub returns-then-text-at : goal.returns-then-text-at
returns-then-text-at c = search comment_end_ways

pub returns-in-47 : goal.returns-in-47
returns-in-47 c = search comment_end_ways

pub returns-in-35 : goal.returns-in-35
returns-in-35 c = search comment_end_ways

pub returns-in_default : goal.returns-in_default
returns-in_default c = comment_none c.requires (search rules) (search rules) (search rules) (omega (arith, c.type_inv.text c.args.at))
