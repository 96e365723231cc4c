-- `plain_string::string::major_of` meets its contract.
-- Assumes nothing.
use Rattle.plain_string.proofs.StringCode.{major-text, major-bytes}
use Rattle.plain_string.proofs.string.major_of.Goals as goal

pub returns-then-quote-eq34 : goal.returns-then-quote-eq34
returns-then-quote-eq34 c = search major-text

pub returns-else-quote-eq34 : goal.returns-else-quote-eq34
returns-else-quote-eq34 c = search major-bytes
