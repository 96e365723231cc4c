-- `escapes::read_unicode` meets its contract.
-- Assumes nothing.
use native.Mathlib.Omega.{arith}
use Rattle.std.proofs.lemmas.Grind.{common_steps}
use Rattle.escapes.proofs.EscapeCode.{unicode-pair, unicode_lone, unicode-plain}
use Rattle.escapes.proofs.read_unicode.Goals as goal

pub returns-then-contains : goal.returns-then-contains
returns-then-contains c = let a = c.if-contains.ensures.cases in unicode-pair c.in_ok-unit.ensures (grind (arith, common_steps)) (grind (arith, common_steps)) c.read_low.ensures

pub returns-then-contains-2 : goal.returns-then-contains-2
returns-then-contains-2 c = let a = c.if-contains-2.ensures.cases in unicode_lone c.in_ok-unit.ensures (grind (arith, common_steps)) (grind (arith, common_steps))

pub returns : goal.returns
returns c = let a = c.if-contains.ensures.cases in let b = c.if-contains-2.ensures.cases in unicode-plain c.in_ok-unit.ensures (λ h. grind (arith, common_steps))
