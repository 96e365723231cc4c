-- `tokens::string::literal` meets its contract.
-- Assumes nothing.
use Rattle.tokens.proofs.StringCode.{lit_misfit, lit_made}
use Rattle.tokens.proofs.string.literal.Goals as goal

pub returns-then-width-eq-MISFIT : goal.returns-then-width-eq-MISFIT
returns-then-width-eq-MISFIT c = search lit_misfit

pub returns : goal.returns
returns c = search lit_made
