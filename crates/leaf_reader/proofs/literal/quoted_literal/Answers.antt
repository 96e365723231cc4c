-- `leaf_reader::literal::quoted_literal` meets its contract.
-- Assumes nothing.
use Rattle.leaf_reader.proofs.LiteralCode.{quoted-literal}
use Rattle.leaf_reader.proofs.literal.quoted_literal.Goals as goal

pub returns : goal.returns
returns c = search quoted-literal
