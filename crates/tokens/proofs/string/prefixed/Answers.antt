-- `tokens::string::prefixed` meets its contract.
-- Assumes nothing.
use Rattle.tokens.proofs.StringCode.{prefix_encoded, prefixed-encoded, prefixed-refused}
use Rattle.tokens.proofs.string.prefixed.Goals as goal

pub encoded-requires : goal.encoded-requires
encoded-requires c = prefix_encoded c.requires c.in-Ok.ensures

pub returns-in-Ok : goal.returns-in-Ok
returns-in-Ok c = prefixed-encoded c.requires c.in-Ok.ensures c.encoded.ensures

pub returns-in-Err : goal.returns-in-Err
returns-in-Err c = prefixed-refused c.requires c.in-Err.ensures c.refuse.ensures
