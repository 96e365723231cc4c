-- `tokens::string::scan_encoded` meets its contract.
-- Assumes nothing.
use Rattle.tokens.proofs.StringCode.{content-hex, content_base64}
use Rattle.tokens.proofs.string.scan_encoded.Goals as goal

pub returns-then-form-eq-HEX : goal.returns-then-form-eq-HEX
returns-then-form-eq-HEX c = search content-hex

pub returns-else-form-eq-HEX : goal.returns-else-form-eq-HEX
returns-else-form-eq-HEX c = search content_base64
