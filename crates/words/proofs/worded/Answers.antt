-- `words::worded` meets its contract.
-- Assumes nothing.
use Rattle.words.proofs.WordCode.{worded-value, worded-simple, worded-refused}
use Rattle.words.proofs.worded.Goals as goal

pub returns-in-Ok-Value : goal.returns-in-Ok-Value
returns-in-Ok-Value c = worded-value c.requires _ (rw c.in-Ok-Value.field-0-is at c.in-Ok-Value.ensures) c.made.ensures

pub returns-in-Ok-SimpleOf : goal.returns-in-Ok-SimpleOf
returns-in-Ok-SimpleOf c = worded-simple c.requires (rw c.in-Ok-SimpleOf.field-0-is at c.in-Ok-SimpleOf.ensures) c.simple_token.ensures

pub returns-in-Err : goal.returns-in-Err
returns-in-Err c = worded-refused c.requires _ c.in-Err.ensures c.refuse.ensures
