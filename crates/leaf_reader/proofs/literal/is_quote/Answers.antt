-- `leaf_reader::literal::is_quote` meets its contract.
-- Assumes nothing.
use Rattle.leaf_reader.proofs.LiteralCode.{is-quote}
use Rattle.leaf_reader.proofs.literal.is_quote.Goals as goal

pub returns-in-34 : goal.returns-in-34
returns-in-34 c = is-quote c.in-34.is
