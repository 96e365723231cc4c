-- `tokens::string::quote_of` meets its contract.
-- Assumes nothing.
use Rattle.tokens.proofs.StringCode.{quote-text, quote-bytes}
use Rattle.tokens.proofs.string.quote_of.Goals as goal

pub returns-then-form-eq-QUOTED : goal.returns-then-form-eq-QUOTED
returns-then-form-eq-QUOTED c = search quote-text

pub returns-else-form-eq-QUOTED : goal.returns-else-form-eq-QUOTED
returns-else-form-eq-QUOTED c = search quote-bytes
