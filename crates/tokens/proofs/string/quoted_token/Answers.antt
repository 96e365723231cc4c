-- `tokens::string::quoted_token` meets its contract.
-- Assumes nothing.
use Rattle.tokens.proofs.StringCode.{quoted_tokens}
use Rattle.tokens.proofs.string.quoted_token.Goals as goal

pub returns-then-size-eq0 : goal.returns-then-size-eq0
returns-then-size-eq0 c = search quoted_tokens

pub returns-then-mark-eq-INDEFINITE : goal.returns-then-mark-eq-INDEFINITE
returns-then-mark-eq-INDEFINITE c = search quoted_tokens

pub returns : goal.returns
returns c = search quoted_tokens
