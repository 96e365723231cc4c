-- `tokens::cut::next_token` meets its contract.
-- Assumes nothing.
use Rattle.tokens.proofs.CutCode.{skips-inside, took}
use Rattle.tokens.proofs.cut.next_token.Goals as goal

pub cut-requires : goal.cut-requires
cut-requires c = search skips-inside

pub returns : goal.returns
returns c = search took
