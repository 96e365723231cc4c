-- `plain_string::block::put_pairs` meets its contract.
-- Assumes nothing.
use Rattle.plain_string.proofs.BlockCode.{pairing_start, pairing_high, pairing_byte, pairing_on}
use Rattle.plain_string.proofs.block.put_pairs.Goals as goal

pub loop-i-init : goal.loop-i-init
loop-i-init c = search pairing_start

pub overflow_mul-buf-in-loop-i : goal.overflow_mul-buf-in-loop-i
overflow_mul-buf-in-loop-i c = search pairing_high

pub overflow_add-buf-in-loop-i : goal.overflow_add-buf-in-loop-i
overflow_add-buf-in-loop-i c = search pairing_byte

pub loop-i-preserved : goal.loop-i-preserved
loop-i-preserved c = search pairing_on
