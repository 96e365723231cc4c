-- `leaf_reader::literal::encoded_literal` meets its contract.
-- Assumes nothing.
use Rattle.leaf_reader.proofs.LiteralCode.{encoded-literal}
use Rattle.leaf_reader.proofs.literal.encoded_literal.Goals as goal

pub returns : goal.returns
returns g c = encoded-literal c.encoded_content-c.ensures c.headed.ensures
