-- `leaf_reader::literal::quoted_content` meets its contract.
-- Assumes nothing.
use Rattle.leaf_reader.proofs.LiteralCode.{quoted-told}
use Rattle.leaf_reader.proofs.literal.quoted_content.Goals as goal

pub returns : goal.returns
returns c = search quoted-told
