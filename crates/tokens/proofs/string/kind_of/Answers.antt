-- `tokens::string::kind_of` meets its contract.
-- Assumes nothing.
use Rattle.tokens.proofs.StringCode.{code-text, code-bytes}
use Rattle.tokens.proofs.string.kind_of.Goals as goal

pub returns-then-form-eq-QUOTED : goal.returns-then-form-eq-QUOTED
returns-then-form-eq-QUOTED c = search code-text

pub returns-else-form-eq-QUOTED : goal.returns-else-form-eq-QUOTED
returns-else-form-eq-QUOTED c = search code-bytes
