-- `tokens::string::encoded` meets its contract.
-- Assumes nothing.
use Rattle.tokens.proofs.StringCode.{raw_inside, encoded-bad, encoded-wrong, encoded-good}
use Rattle.tokens.proofs.string.encoded.Goals as goal

pub returns-in_default : goal.returns-in_default
returns-in_default c = encoded-bad c.requires c.in_default.ensures c.refuse.ensures

pub indicator_at-m-requires : goal.indicator_at-m-requires
indicator_at-m-requires c = raw_inside _ c.in-Some.ensures

pub returns-in_default-scan_encoded : goal.returns-in_default-scan_encoded
returns-in_default-scan_encoded c = encoded-wrong c.requires c.in-Some.ensures c.indicator_at-m.ensures c.in_default-scan_encoded.ensures c.refuse-in_default-scan_encoded.ensures

pub returns : goal.returns
returns c = encoded-good c.requires c.in-Some.ensures c.indicator_at-m.ensures c.in-Some-scan_encoded.ensures c.literal.ensures
