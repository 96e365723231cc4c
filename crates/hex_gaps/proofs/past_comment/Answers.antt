-- `hex_gaps::past_comment` meets its contract.
-- Assumes nothing.
use native.Mathlib.Omega.{arith}
use Rattle.hex_gaps.proofs.BlankCode.{comment_start, comment_ends, comment_goes, comment_none}
use Rattle.hex_gaps.proofs.past_comment.Goals as goal

pub loop-i-init : goal.loop-i-init
loop-i-init c = search comment_start

pub returns-then-text-i : goal.returns-then-text-i
returns-then-text-i c = comment_ends c.loop-i.invariant c.requires.before c.requires.closing (omega (arith, c.type_inv.text c.loop-i.i)) c.loop-i-test.true c.if-text-i.true

pub loop-i-preserved : goal.loop-i-preserved
loop-i-preserved c = comment_goes c.loop-i.invariant c.requires.before c.requires.closing (omega (arith, c.type_inv.text c.loop-i.i)) c.loop-i-test.true c.if-text-i.false

pub returns : goal.returns
returns c = search comment_none
