-- `base64_body::read_base64` meets its contract.
-- Assumes nothing.
use Rattle.literal_body.proofs.ReadingCode.{progress_start}
use Rattle.base64_body.proofs.LoopCode.{read-end, read-wrong, read-last, read-on}
use Rattle.base64_body.proofs.read_base64.Goals as goal

pub loop-i-init : goal.loop-i-init
loop-i-init c = search progress_start

pub returns-in_err-n : goal.returns-in_err-n
returns-in_err-n c =
    rw c.from_residual.ensures (read-wrong c.loop-i.invariant c.put_fours-run.ensures c.letters-g.ensures c.is_last.ensures c.if-is_last.true _ c.min-stop.ensures c.in_err-n.ensures)

pub returns-then-is_last : goal.returns-then-is_last
returns-then-is_last c = read-last c.loop-i.invariant c.put_fours-run.ensures c.letters-g.ensures c.is_last.ensures c.if-is_last.true _ c.min-stop.ensures c.in_ok-n.ensures c.put_bytes.ensures

pub loop-i-preserved : goal.loop-i-preserved
loop-i-preserved c = search read-on

pub returns : goal.returns
returns c = search read-end
