-- `literal_body::scan_body` meets its contract.
-- Assumes nothing.
use Rattle.literal_body.proofs.LiteralCode.{body-start, body_open, body_close, body-wrong, body_end, body-on}
use Rattle.literal_body.proofs.scan_body.Goals as goal

pub loop-i-init : goal.loop-i-init
loop-i-init c = search body-start

pub returns-in_err-get : goal.returns-in_err-get
returns-in_err-get c = rw c.from_residual.ensures (body_open c.loop-i.invariant c.text_run-stop.ensures c.in_err-get.ensures.lookup.3)

pub loop-i-preserved : goal.loop-i-preserved
loop-i-preserved c = let x = c.in_ok-get.ensures.lookup.3 in body-on c.loop-i.invariant c.text_run-stop.ensures x.0 (rw (x.1 0) at c.in-Stands.ensures)

pub returns-in-Ends : goal.returns-in-Ends
returns-in-Ends c = let x = c.in_ok-get.ensures.lookup.3 in body_close c.loop-i.invariant c.text_run-stop.ensures x.0 (rw (x.1 0) at c.in-Ends.ensures)

pub returns-in-Refused : goal.returns-in-Refused
returns-in-Refused c = let x = c.in_ok-get.ensures.lookup.3 in body-wrong c.loop-i.invariant c.text_run-stop.ensures x.0 (rw (x.1 0) at c.in-Refused.ensures)

pub returns : goal.returns
returns c = search body_end
