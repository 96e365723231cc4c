-- `quick_head::two_bytes` meets its contract.
-- Assumes nothing.
use Rattle.quick_head.proofs.QuickHeadCode.{two_made}
use Rattle.quick_head.proofs.two_bytes.Goals as goal

pub returns-then-initial-eq-IN_TWO_BYTES : goal.returns-then-initial-eq-IN_TWO_BYTES
returns-then-initial-eq-IN_TWO_BYTES c = search (two_made, c.type_inv.bytes 0)
