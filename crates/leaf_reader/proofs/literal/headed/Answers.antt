-- `leaf_reader::literal::headed` meets its contract.
-- Assumes nothing.
use Rattle.leaf_reader.proofs.LiteralCode.{headed_leaf}
use Rattle.leaf_reader.proofs.literal.headed.Goals as goal

pub returns : goal.returns
returns c = rw c.in-Some.is (headed_leaf c.if-n-gt-LONGEST.false c.indicator_at-m.ensures c.choose-width.ensures c.if-width-eq-MISFIT.false c.info_by.ensures c.put_before-head.ensures c.leaf.ensures)
