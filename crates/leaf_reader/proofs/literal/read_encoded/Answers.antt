-- `leaf_reader::literal::read_encoded` meets its contract.
-- Assumes nothing.
use mathlib.Core.Path.{ap}
use mathlib.Core.Bool.{not}
use borrow.Author.Tests.{eq-eqb, ne_eqb}
use Rattle.leaf_reader.proofs.LiteralCode.{into-hex, into_base64}
use Rattle.leaf_reader.proofs.literal.read_encoded.Goals as goal

pub returns-then-this-ne0 : goal.returns-then-this-ne0
returns-then-this-ne0 g c = into_base64 _ _ (ap not (ne_eqb _ 0 c.if-this-ne0.true)) c.read_base64.ensures

pub returns-else-this-ne0 : goal.returns-else-this-ne0
returns-else-this-ne0 g c = into-hex _ _ (ap not (eq-eqb _ 0 c.if-this-ne0.false)) c.read_hex.ensures
