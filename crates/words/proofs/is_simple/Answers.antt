-- `words::is_simple` meets its contract.
-- Assumes nothing.
use native.Mathlib.Omega.{arith}
use borrow.Author.Tests.{not-true, not-false}
use Rattle.words.proofs.WordCode.{simple-over, simple-low, simple_gap, simple-high, simple-above}
use Rattle.words.proofs.is_simple.Goals as goal

pub returns-in_default : goal.returns-in_default
returns-in_default c = simple_gap _ (not-true _ c.if-not-a.true) (omega arith) (omega arith)

pub returns-in_default-2 : goal.returns-in_default-2
returns-in_default-2 c = simple-above _ (not-true _ c.if-not-a.true) (omega arith)

pub returns-in-0-to-23 : goal.returns-in-0-to-23
returns-in-0-to-23 c = simple-low _ (not-true _ c.if-not-a.true) (omega arith)

pub returns-in-0-to-23-2 : goal.returns-in-0-to-23-2
returns-in-0-to-23-2 c = simple-high _ (not-true _ c.if-not-a.true) (omega arith) (omega arith)

pub returns-else-not-a : goal.returns-else-not-a
returns-else-not-a c = rw c.if-not-a.false (simple-over _ (not-false _ c.if-not-a.false))
