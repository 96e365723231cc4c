-- `hex_body::read_hex` meets its contract.
-- Assumes nothing.
use Rattle.literal_body.proofs.ReadingCode.{progress_start}
use Rattle.hex_body.proofs.HexCode.{read-end, read-whole, read-wrong, read_less, read-on}
use Rattle.hex_body.proofs.read_hex.Goals as goal

pub loop-i-init : goal.loop-i-init
loop-i-init c = search progress_start

pub loop-i-smaller : goal.loop-i-smaller
loop-i-smaller c = read_less c.loop-i.invariant c.put_stretch-run.ensures c.in-Byte.ensures c.after_blank-i.ensures c.loop-i-test.true

pub loop-i-preserved : goal.loop-i-preserved
loop-i-preserved c = read-on c.loop-i.invariant c.put_stretch-run.ensures c.in-Byte.ensures c.after_blank-i.ensures c.put-p.ensures

pub returns-in-Wrong : goal.returns-in-Wrong
returns-in-Wrong c = read-wrong c.loop-i.invariant c.put_stretch-run.ensures _ c.min-stop.ensures c.in-Wrong.ensures

pub returns-after-loop-i : goal.returns-after-loop-i
returns-after-loop-i c = search read-end

pub returns-in-End : goal.returns-in-End
returns-in-End c = read-whole c.loop-i.invariant c.put_stretch-run.ensures _ c.min-stop.ensures c.in-End.ensures
