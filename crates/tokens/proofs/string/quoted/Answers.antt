-- `tokens::string::quoted` meets its contract.
-- Assumes nothing.
use Rattle.tokens.proofs.StringCode.{scan_inside, quoted-good, quoted-wrong}
use Rattle.tokens.proofs.string.quoted.Goals as goal

pub returns-in_default : goal.returns-in_default
returns-in_default c = quoted-wrong c.requires c.quote_of.ensures c.in_default.ensures c.refuse.ensures

pub indicator_at-m-requires : goal.indicator_at-m-requires
indicator_at-m-requires c = scan_inside _ c.in-Some.ensures

pub returns : goal.returns
returns c = quoted-good c.requires c.quote_of.ensures c.in-Some.ensures c.indicator_at-m.ensures c.quoted_token.ensures
