-- `leaf_reader::literal::encoded_content` meets its contract.
-- Assumes nothing.
use mathlib.Core.Path.{refl}
use Rattle.leaf_reader.proofs.LiteralCode.{encoded-told}
use Rattle.leaf_reader.proofs.literal.encoded_content.Goals as goal

pub returns : goal.returns
returns g c = let a = c.in_ok-next.ensures in let b = c.in_ok-c.ensures in encoded-told c.requires.pos_in_bounds refl c.requires.encoded_from c.in_ok-next.ensures c.in_ok-c.ensures
