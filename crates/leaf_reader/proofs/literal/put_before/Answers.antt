-- `leaf_reader::literal::put_before` meets its contract.
-- Assumes nothing.
use Rattle.leaf_reader.proofs.LiteralCode.{put-short, put_long}
use Rattle.leaf_reader.proofs.literal.put_before.Goals as goal

pub returns-then-head-eq1 : goal.returns-then-head-eq1
returns-then-head-eq1 c = search put-short

pub returns-else-head-eq1 : goal.returns-else-head-eq1
returns-else-head-eq1 c = search put_long
