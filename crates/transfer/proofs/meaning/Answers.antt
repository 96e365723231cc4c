-- `transfer::meaning` meets its contract.
-- Assumes nothing.
use Rattle.transfer.proofs.Meanings.{end, bytes, interrupted, other}
use Rattle.transfer.proofs.meaning.Goals as goal

pub returns-in-Ok-eq0 : goal.returns-in-Ok-eq0
returns-in-Ok-eq0 c = end c.ranges.got c.in-Ok-eq0.ensures c.in-Ok-eq0.field-0-test _

pub returns-in-Ok : goal.returns-in-Ok
returns-in-Ok c = bytes c.ranges.got c.in-Ok.ensures c.in-Ok.n-test.1 _

pub returns-in-Err : goal.returns-in-Err
returns-in-Err c = interrupted c.ranges.got c.in-Err.ensures c.ranges.error c.if-error-eq-INTERRUPTED.true

pub returns-in-Err-2 : goal.returns-in-Err-2
returns-in-Err-2 c = other c.ranges.got c.in-Err-2.ensures c.ranges.error c.if-error-eq-INTERRUPTED.false
